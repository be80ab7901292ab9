-- Refusals: a call's conditions in their order, and those that whoever drew the job can cause (document 01, "Turned away, by who can cause it").
-- These are definitions.
use Rattle.std.specs.Prelude.{Bool, ◌||◌, cond, List, [], ◌∷◌, ◌++◌, ℕ, ◌≤◌, ◌<◌, ltb, leb, eqb}

-- a condition under which a call is refused, and the number it is refused by
pub record Refusal : Type 0 where
  pub number : ℕ
  pub holds : Bool

abbrev pub refuse : (number : ℕ) → (holds : Bool) → Refusal
refuse n h = record { number = n; holds = h }

-- the status of a call: the number of the first condition that holds, and 0 (done) where none holds
unfoldable pub first_of : List Refusal → ℕ
first_of [] = 0
first_of (r ∷ rs) = cond r.holds r.number (first_of rs)

-- the longest pattern (motif) and the longest text (chain) that are taken
abbrev pub longest_pattern : ℕ
longest_pattern = 128

abbrev pub longest_text : ℕ
longest_text = 16384

-- 4: m is 0 or above 128
abbrev pub pattern_refusal : (m : ℕ) → Refusal
pattern_refusal m = refuse 4 (eqb m 0 || ltb longest_pattern m)

-- 5: the hold offset (hold place) q is not below m
abbrev pub hold_refusal : (m q : ℕ) → Refusal
hold_refusal m q = refuse 5 (leb m q)

-- 6: n above 16,384
abbrev pub text_refusal : (n : ℕ) → Refusal
text_refusal n = refuse 6 (ltb longest_text n)

-- what whoever drew the job can cause, in its order: by its pattern and hold offset, the job's rule, and then by its text
abbrev pub rule_refusals : (m q : ℕ) → List Refusal
rule_refusals m q = pattern_refusal m ∷ hold_refusal m q ∷ []

unfoldable pub job_refusals : (m q n : ℕ) → List Refusal
job_refusals m q n = rule_refusals m q ++ (text_refusal n ∷ [])

-- none of 4, 5 and 6 holds: q is below m, m is at most 128, and n at most 16,384
pub record WithinLimits (m q n : ℕ) : Type 0 where
  pub hold_offset : q < m
  pub pattern : m ≤ longest_pattern
  pub text : n ≤ longest_text

-- 7: a caller's buffer (lent buffer) has fewer entries than are needed
abbrev pub buffer_refusal : (entries needed : ℕ) → Refusal
buffer_refusal e n = refuse 7 (ltb e n)
