-- What a status of 0 says, of a file, of reading and of writing: a fact for each condition, since none of them holds.
-- The tests of the conditions, turned into facts and back.
use mathlib.Core.Bool.{not}
use mathlib.Core.List.{List, [], ◌∷◌, ◌++◌}
use mathlib.Core.Path.{◌≡◌, ap}
use Prim.Native.Nat.{ℕ, ◌≤◌}
use native.Mathlib.Omega.{arith}
use borrow.Author.Tests.{ltb-false, eqb-true, not-false, le-ltb, eq-eqb}
use Rattle.answers.proofs.Refusals.{none_done, done_none, limits_hold, limits_none}
use Rattle.answers.specs.Promises.{NoneHolds}
use Rattle.answers.specs.Refusals.{Refusal, job_refusals, WithinLimits, buffer_refusal}
use Rattle.job.specs.Job.{file_length, m_in, q_in, n_in, file_refusals, file_status}
use Rattle.job.specs.Promises.{FileTaken, TakenRight}
use Rattle.job.specs.Read.{read_status}
use Rattle.job.specs.Write.{write_status}

-- with any conditions past the file's own
module _ (file : List ℕ) (rs : List Refusal) where
  facts : NoneHolds (file_refusals file ++ rs) → FileTaken file × NoneHolds rs
  unfolding file_refusals job_refusals
  facts h =
      let (limits, sizes) = limits_hold (m_in file) (q_in file) (n_in file) h.1.1.1 in (
        record {
          long = ltb-false _ _ h.0;
          first = not-false _ h.1.0;
          edition = eqb-true _ _ (not-false _ h.1.1.0);
          limits = limits;
          size = eqb-true _ _ (not-false _ sizes.0);
          rest = not-false _ sizes.1.0;
        },
        sizes.1.1,
      )

  none : FileTaken file → NoneHolds rs → NoneHolds (file_refusals file ++ rs)
  unfolding file_refusals job_refusals
  none t later = (
    le-ltb _ _ t.long,
    (
      ap not t.first,
      (
        ap not (eq-eqb _ _ t.edition),
        limits_none (m_in file) (q_in file) (n_in file) t.limits (ap not (eq-eqb _ _ t.size), (ap not t.rest, later)),
      ),
    ),
  )

module _ (file : List ℕ) where
  pub file_taken : file_status file ≡ 0 → FileTaken file
  unfolding file_status file_refusals job_refusals
  file_taken e = (facts file [] (done_none (file_refusals file) (omega arith) e)).0

  pub file_taken_done : FileTaken file → file_status file ≡ 0
  unfolding file_status file_refusals job_refusals
  file_taken_done t = none_done (file_refusals file) (none file [] t tt)

pub taken_right : TakenRight
unfolding TakenRight
taken_right file = (file_taken file, file_taken_done file)

-- a file is read: it is taken, and the buffers have room
pub record Readable (file : List ℕ) (pattern_len text_len : ℕ) : Type 0 where
  pub taken : FileTaken file
  pub pattern_room : m_in file ≤ pattern_len
  pub text_room : n_in file ≤ text_len

module _ (file : List ℕ) (pattern_len text_len : ℕ) where
  abbrev rooms : List Refusal
  rooms = buffer_refusal pattern_len (m_in file) ∷ buffer_refusal text_len (n_in file) ∷ []

  pub readable : read_status file pattern_len text_len ≡ 0 → Readable file pattern_len text_len
  unfolding read_status file_refusals job_refusals
  readable e =
      let (taken, room) = facts file rooms (done_none (file_refusals file ++ rooms) (omega arith) e) in
      record { taken = taken; pattern_room = ltb-false _ _ room.0; text_room = ltb-false _ _ room.1.0 }

  pub readable_done : Readable file pattern_len text_len → read_status file pattern_len text_len ≡ 0
  unfolding read_status
  readable_done r =
      none_done
      (file_refusals file ++ rooms)
      (none file rooms r.taken (le-ltb _ _ r.pattern_room, (le-ltb _ _ r.text_room, tt)))

-- a job is written: it is within the limits, and the buffer has room
pub record Writable (m q n file_len : ℕ) : Type 0 where
  pub limits : WithinLimits m q n
  pub file_room : file_length m n ≤ file_len

module _ (m q n file_len : ℕ) where
  abbrev write_refusals : List Refusal
  write_refusals = job_refusals m q n ++ (buffer_refusal file_len (file_length m n) ∷ [])

  pub writable : write_status m q n file_len ≡ 0 → Writable m q n file_len
  unfolding write_status job_refusals
  writable e =
      let (limits, room) = limits_hold m q n (done_none write_refusals (omega arith) e) in
      record { limits = limits; file_room = ltb-false _ _ room.0 }

  pub writable_done : Writable m q n file_len → write_status m q n file_len ≡ 0
  unfolding write_status job_refusals
  writable_done w = none_done write_refusals (limits_none m q n w.limits (le-ltb _ _ w.file_room, tt))
