-- A part of a table that is lent and put back: what stands in it, before it and after it.
-- The seams are at the lengths of what stands before.
use mathlib.Core.List.{List, ◌++◌}
use mathlib.Core.Path.{◌≡◌, ◌∙◌}
use Prim.Native.Nat.{ℕ, ◌+◌, ◌-◌, ◌≤◌, ◌<◌}
use native.Mathlib.Omega.{arith}
use borrow.Rule.Slice.PartMut.{mid_of, put_mid}
use lib.ListN.{length, get_or, take, drop, get_or-append, length-drop}
use lib.Seq.{length-take-le, get_or-append-add, get_or-drop, get_or-take}

past : (p q : List ℕ) (n i : ℕ) → length p ≡ n → get_or (p ++ q) (n + i) 0 ≡ get_or q i 0
past p q n i e = rw e at (get_or-append-add p q i 0)

-- the k entries from a on, and ys put in their place
module _ (a k : ℕ) (xs : List ℕ) (within : a + k ≤ length xs) where
  pub part_length : length (mid_of a k xs) ≡ k
  part_length = length-take-le k (drop a xs) (simp length-drop (omega arith))

  pub part_entry : (i : ℕ) → i < k → get_or (mid_of a k xs) i 0 ≡ get_or xs (a + i) 0
  part_entry i h = rw (get_or-take k (drop a xs) i 0 h, get_or-drop)

  front : length (take a xs) ≡ a
  front = length-take-le a xs (omega arith)

  module _ (ys : List ℕ) (fits : length ys ≡ k) where
    pub put_in : (i : ℕ) → i < k → get_or (put_mid a k xs ys) (a + i) 0 ≡ get_or ys i 0
    put_in i h = past (take a xs) _ a i front ∙ get_or-append ys (drop k (drop a xs)) 0 i (omega arith)

    pub put_before : (i : ℕ) → i < a → get_or (put_mid a k xs ys) i 0 ≡ get_or xs i 0
    put_before i h = get_or-append (take a xs) _ 0 i (omega (arith, front)) ∙ get_or-take a xs i 0 h

    pub put_after : (i : ℕ) → a + k ≤ i → get_or (put_mid a k xs ys) i 0 ≡ get_or xs i 0
    put_after i h =
        let place : i ≡ a + (k + (i - a - k)) = omega arith in
        rw place (past (take a xs) _ a _ front ∙ past ys _ k _ fits ∙ get_or-drop k (drop a xs) _ 0 ∙ get_or-drop a xs _ 0)
