-- What it is that the status of converting is 0: the limits are kept, the buffers have room, and the status of searching is 0 too.
-- None of the conditions holds, and those of searching are among them.
use mathlib.Core.Bool.{false, ◌||◌}
use mathlib.Core.List.{[], ◌∷◌, ◌++◌}
use mathlib.Core.Path.{◌≡◌, ◌∙◌}
use Prim.Native.Nat.{ℕ, ◌≤◌}
use native.Mathlib.Omega.{arith}
use borrow.Author.Tests.{ltb-false, le-ltb}
use lib.Dec.{ltb}
use Rattle.answers.proofs.Refusals.{either, same_past, none_done, done_none, limits_hold, limits_none}
use Rattle.answers.specs.Refusals.{first_of, pattern_refusal, text_refusal, job_refusals, WithinLimits, buffer_refusal}
use Rattle.tables.specs.Buffers.{tables_short, table_refusal, measured_status}
use Rattle.tables.specs.declared.TableLengths.{TableLengths}
use Rattle.search.specs.Search.{search_status}
use Rattle.convert.specs.Convert.{convert_status}

-- the buffers for finds and for frames are measured together
pub status_is :
    (m q n found frames : ℕ) {s : ℕ} {l l' : TableLengths} → s ≡ measured_status m q n l (ltb found n || ltb frames n) → l ≡ l' →
    s ≡ convert_status m q n l' found frames
unfolding measured_status convert_status first_of
status_is m q n found frames measured e =
    rw e at measured ∙ same_past (job_refusals m q n) _ _ (λ none. rw (either (ltb found n)))

-- a text is converted
pub record ConversionTaken (m q n : ℕ) (l : TableLengths) (found_len frames_len : ℕ) : Type 0 where
  pub limits : WithinLimits m q n
  pub tables_room : tables_short m l ≡ false
  pub found_room : n ≤ found_len
  pub frames_room : n ≤ frames_len

module _ {m q n : ℕ} {l : TableLengths} {found frames : ℕ} where
  pub conversion_taken : convert_status m q n l found frames ≡ 0 → ConversionTaken m q n l found frames
  unfolding convert_status job_refusals
  conversion_taken e =
      let rooms = table_refusal m l ∷ buffer_refusal found n ∷ buffer_refusal frames n ∷ [] in
      let (limits, room) = limits_hold m q n (done_none (job_refusals m q n ++ rooms) (omega arith) e) in
      record {
        limits = limits;
        tables_room = room.0;
        found_room = ltb-false _ _ room.1.0;
        frames_room = ltb-false _ _ room.1.1.0;
      }

  -- where the limits are kept and the buffers have room, a text is converted
  pub conversion_done : ConversionTaken m q n l found frames → convert_status m q n l found frames ≡ 0
  unfolding convert_status job_refusals
  conversion_done t =
      none_done (job_refusals m q n ++ (table_refusal m l ∷ buffer_refusal found n ∷ buffer_refusal frames n ∷ []))
      (limits_none m q n t.limits (t.tables_room, (le-ltb _ _ t.found_room, (le-ltb _ _ t.frames_room, tt))))

  -- the search of a conversion is taken
  pub search_taken : ConversionTaken m q n l found frames → search_status m n l found ≡ 0
  unfolding search_status
  search_taken t =
      let job = limits_none m q n {Rest = Unit {0}} t.limits tt in
      none_done (pattern_refusal m ∷ text_refusal n ∷ table_refusal m l ∷ buffer_refusal found n ∷ [])
      (job.0, (job.1.1.0, (t.tables_room, (le-ltb _ _ t.found_room, tt))))
