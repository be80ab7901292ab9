-- Frames of a list of rules as they are written: the holds of the rules that are left are marked
-- one rule after another, at the entries that are left; in front of a buffer they are the frames in
-- front of it.
use mathlib.Core.List.{List, [], ◌∷◌, ◌++◌, append_assoc, map}
use mathlib.Core.Path.{◌≡◌, refl, sym, ◌∙◌, ap}
use Prim.Native.Nat.{ℕ, suc, ◌+◌, ◌-◌, ◌≤◌, ◌<◌}
use native.Mathlib.Numerals.{add-one}
use native.Mathlib.Omega.{arith}
use lib.ListN.{length, get_or, take, drop, length-append, length-drop, length-map, drop_of_length-le, take-append-drop}
use lib.Seq.{take_at, drop_at, drop-cons, drop-drop}
use Rattle.std.proofs.lemmas.List.{get_or-map}
use Rattle.answers.proofs.Fronts.{in_front_take}
use Rattle.answers.specs.Buffers.{in_front}
use Rattle.frames.proofs.Holds.{occurrences_few, length_with_holds, with_holds_append}
use Rattle.frames.specs.Frames.{holds, with_holds}
use Rattle.rules.proofs.Listed.{rules_counted, rule_listed}
use Rattle.rules.specs.Buffers.{one_after_another}
use Rattle.rules.specs.Rules.{Rule, rule_of, Patterned, count_of, offset_at, rule_at, rules_of}
use Rattle.rules_answers.specs.Answers.{nothing_told, no_answers, told_of, all_told}
use Rattle.rules_answers.specs.declared.RuleAnswer.{RuleAnswer}
use Rattle.rules_claims.specs.Claims.{found_of}
use Rattle.rules_frames.proofs.Marked.{length_marked}
use Rattle.rules_frames.specs.RuleFrames.{hold_of, marked, rule_frames}
use Rattle.rules_frames.specs.Within.{RuleFramesReady}

-- of these rules, the first of which has number k, the holds are left to be marked in the frames:
-- the entries begin with their occurrences, which are at most n, and the frames are `done` then
pub record MarksLeft (k : ℕ) (rs : List Rule) (t found frames done : List ℕ) : Type 0 where
  pub rest : List ℕ
  pub listed : found ≡ one_after_another (found_of t) rs ++ rest
  pub few : length (one_after_another (found_of t) rs) ≤ length t
  pub marks : marked k rs t frames ≡ done

pub all_left :
    (rs : List Rule) (t found frames : List ℕ) →
    (let all = one_after_another (found_of t) rs in take (length all) found ≡ all) →
    length (one_after_another (found_of t) rs) ≤ length t → MarksLeft 1 rs t found frames (marked 1 rs t frames)
all_left rs t found frames listed few =
    let all = one_after_another (found_of t) rs in
    record {
      rest = drop (length all) found;
      listed = sym (take-append-drop (length all) found) ∙ ap (λ front. front ++ drop (length all) found) listed;
      few = few;
      marks = refl;
    }

-- the occurrences of the first rule are the first entries, and then the other rules are left
module _
    {k : ℕ} {r : Rule} {rs : List Rule} {t found frames done : List ℕ}
    (left : MarksLeft k (r ∷ rs) t found frames done) where
  apart : found ≡ found_of t r ++ (one_after_another (found_of t) rs ++ left.rest)
  unfolding one_after_another
  apart = left.listed ∙ append_assoc (found_of t r) _ _

  pub first_found : (h : ℕ) → h ≡ length (found_of t r) → take h found ≡ found_of t r
  first_found h e = rw apart (take_at (found_of t r) _ h (sym e))

  pub first_inside : length (found_of t r) ≤ length found
  first_inside = rw (apart, length-append) (omega arith)

  sizes : length (found_of t r) ≤ length t
  unfolding one_after_another
  sizes = omega (arith, left.few, length-append (found_of t r) (one_after_another (found_of t) rs))

  pub next_left :
      (h : ℕ) → h ≡ length (found_of t r) →
      MarksLeft (suc k) rs t (drop h found)
      (with_holds (hold_of k) (holds (length t) r.hold_offset (found_of t r)) frames) done
  unfolding one_after_another marked
  next_left h e =
      record {
        rest = left.rest;
        listed = rw apart (drop_at (found_of t r) _ h (sym e));
        few = omega (arith, left.few, length-append (found_of t r) (one_after_another (found_of t) rs));
        marks = left.marks;
      }

-- the holds of the rules of a table before rule i are marked, over frames that were frames₀; the
-- occurrences of the others stand from entry `at` on
pub record UnderWay
    (x t : List ℕ) (answers : List RuleAnswer) (found frames₀ frames : List ℕ) (at i : ℕ) : Type 0 where
  pub told : answers ≡ map (told_of t) (rules_of x)
  pub within : at ≤ length found
  pub size : length frames ≡ length frames₀
  pub left : MarksLeft (suc i) (drop i (rules_of x)) t (drop at found) frames (marked 1 (rules_of x) t frames₀)

pub none_marked :
    {x t found frames₀ frames : List ℕ} {answers : List RuleAnswer} {n : ℕ} →
    RuleFramesReady x t answers found frames₀ → n ≡ count_of x →
    UnderWay x t (take n answers) found frames frames 0 0
unfolding all_told
none_marked {x} {t} {found} {frames₀} {frames} ready e =
    let size : length (map (told_of t) (rules_of x)) ≡ count_of x = rw length-map (rules_counted x) in
    record {
      told = rw (ready.told, e) (in_front_take (map (told_of t) (rules_of x)) no_answers (count_of x) size);
      within = omega arith;
      size = refl;
      left = all_left (rules_of x) t found frames ready.listed ready.few;
    }

module _
    {x t found frames₀ frames : List ℕ} {answers : List RuleAnswer} {at i : ℕ}
    (u : UnderWay x t answers found frames₀ frames at i) where
  many : length answers ≡ length (rules_of x)
  many = rw (u.told, length-map) refl

  pub all_marked : length answers ≤ i → frames ≡ marked 1 (rules_of x) t frames₀
  unfolding marked
  all_marked l = rw (drop_of_length-le (rules_of x) {i = i} (omega (arith, many))) at u.left.marks

  -- rule i is next, with as many occurrences as are told of it
  module _ (l : i < length answers) where
    listed : i < length (rules_of x)
    listed = omega (arith, many)

    pub inside : i < count_of x
    inside = rw rules_counted at listed

    here :
        MarksLeft (suc i) (rule_at x i ∷ drop (suc i) (rules_of x)) t (drop at found) frames
        (marked 1 (rules_of x) t frames₀)
    here = rw (drop-cons (rules_of x) i (rule_of [] 0) listed, rule_listed x i (rule_of [] 0) inside) at u.left

    abbrev h : ℕ
    h = (get_or answers i nothing_told).occurrences

    counted : h ≡ length (found_of t (rule_at x i))
    counted =
        rw u.told
        (ap (λ (a : RuleAnswer). a.occurrences)
        (get_or-map (told_of t) (rules_of x) i (rule_of [] 0) nothing_told listed))
        ∙ ap (λ (r : Rule). length (found_of t r)) (rule_listed x i (rule_of [] 0) inside)

    abbrev part : List ℕ
    part = take (at + h - at) (drop at found)

    part_found : part ≡ found_of t (rule_at x i)
    part_found = let size : at + h - at ≡ h = omega arith in rw size (first_found here h counted)

    pub part_inside : at + h ≤ length found
    part_inside = omega (arith, counted, first_inside here, length-drop at found, u.within)

    pub part_few : length part ≤ length t
    part_few = rw part_found (sizes here)

    pub one_marked :
        {q : ℕ} {frames' : List ℕ} → q ≡ offset_at x i →
        frames' ≡ with_holds (hold_of (i + 1)) (holds (length t) q part) frames →
        UnderWay x t answers found frames₀ frames' (at + h) (i + 1)
    one_marked {q} {frames'} offset marks =
        record {
          told = u.told;
          within = part_inside;
          size = rw (marks, length_with_holds) u.size;
          left = rw (marks, offset, part_found, add-one i, ← drop-drop h at found) (next_left here h counted);
        }

-- holds inside the first of two lists are marked there
marked_append :
    (k : ℕ) (rs : List Rule) (t first second : List ℕ) → Patterned rs → length t ≤ length first →
    marked k rs t (first ++ second) ≡ marked k rs t first ++ second
unfolding marked Patterned
marked_append k [] t first second some room = refl
marked_append k (r ∷ rs) t first second some room =
    let here = holds (length t) r.hold_offset (found_of t r) in
    rw (with_holds_append (hold_of k) (length t) r.hold_offset (found_of t r) first second
    (λ l. omega (arith, occurrences_few r.pattern t some.0)) room)
    (marked_append (suc k) rs t (with_holds (hold_of k) here first) second some.1 (rw length_with_holds room))

pub rule_frames_in_front :
    (rs : List Rule) (t buffer : List ℕ) → Patterned rs →
    marked 1 rs t (in_front t buffer) ≡ in_front (rule_frames rs t) buffer
unfolding in_front rule_frames
rule_frames_in_front rs t buffer some =
    rw length_marked (marked_append 1 rs t t (drop (length t) buffer) some (omega arith))
