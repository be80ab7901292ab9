-- The linked shifts while they are narrowed by an entry h: those below k keep what h shows too. A shift that keeps it stays linked, another one is
-- unlinked (`stays`, `goes`), and past h the shifts are narrowed and the least that is allowed is known (`narrowed`, `least_left`).
-- Between a linked shift and the next there is none, so that a turn settles all up to the next.
use Rattle.std.specs.Prelude.{Option, None, Some}
use Rattle.std.specs.Option.{option_or, unwrap_or}
use mathlib.Core.List.{List}
use mathlib.Core.Logic.{◌≢◌, ◌⊎◌, inl, inr, ⊎_elim}
use mathlib.Core.Path.{◌≡◌, refl, sym, ◌∙◌}
use Prim.Native.Nat.{ℕ, suc, ◌-◌, ◌≤◌, ◌<◌}
use native.Mathlib.Nat.{eq-or-lt_of_le}
use native.Mathlib.Omega.{arith}
use lib.ListN.{length, get_or, set, length-set}
use lib.Seq.{get_or-set_same, get_or-set_other}
use Rattle.tables.proofs.Cases.{eq_or_ne, le_or_lt}
use Rattle.tables.specs.Facts.{InPos, InNeg, OutNeg}
use Rattle.tables.specs.Sets.{byte}
use Rattle.tables.specs.Tables.{order}
use Rattle.tables_delta2.specs.Links.{Next, Linked, Left, ShiftsLinked, LeastLeft}

-- numbers with the same property are linked alike
linked_same :
    {P Q : ℕ → Type 0} {m : ℕ} {next : List ℕ} → ((x : ℕ) → P x → Q x) → ((x : ℕ) → Q x → P x) → Linked P m next → Linked Q m next
linked_same to from r = record {
  room = r.room;
  after = λ x l h.
      let n = r.after x l (⊎_elim inl (λ q. inr (from x q)) h) in
      record { above = n.above; within = n.within; has = to _ n.has; none_between = λ z a b q. n.none_between z a b (from z q) };
}

-- a shift keeps what h shows
abbrev Keeps : (w : List ℕ) (h k : ℕ) → Type 0
Keeps w h k = OutNeg w (byte w h) h k

-- the shifts that are linked when those below k are settled
abbrev Settled : (w : List ℕ) (i h k x : ℕ) → Type 0
Settled w i h k x = Left w i x × (x < k → Keeps w h x)

-- each shift left from 1 to below k keeps what h shows and is at most h
abbrev AllKeep : (w : List ℕ) (i h k : ℕ) → Type 0
AllKeep w i h k = (z : ℕ) → 1 ≤ z → z < k → Left w i z → InPos w (byte w h) h z

-- x is the least shift left that does not keep what h shows
pub record IsUnlinked (w : List ℕ) (i h k x : ℕ) : Type 0 where
  pub positive : 1 ≤ x
  pub below : x < k
  pub left : Left w i x
  pub differs : InNeg w (byte w h) h x
  pub before : AllKeep w i h x

-- `least` is that shift, if there is one below k
abbrev LeastUnlinked : (w : List ℕ) (i h : ℕ) (least : Option ℕ) (k : ℕ) → Type 0
LeastUnlinked w i h None k = AllKeep w i h k
LeastUnlinked w i h (Some x) k = IsUnlinked w i h k x

-- the loop at the linked shift k, with the linked one before it
pub record Narrowing (w : List ℕ) (i h : ℕ) (next : List ℕ) (least : Option ℕ) (before k : ℕ) : Type 0 where
  pub positive : 1 ≤ k
  pub within : k ≤ length w
  pub linked_here : Left w i k
  pub linked : Linked (Settled w i h k) (length w) next
  pub before_below : before < k
  pub before_linked : (before ≡ 0) ⊎ Settled w i h k before
  pub none_between : (z : ℕ) → before < z → z < k → Settled w i h k z → ⊥
  pub least_so_far : LeastUnlinked w i h least k

-- 0, which moves nothing, keeps it
zero_keeps : (w : List ℕ) (h x : ℕ) → x ≡ 0 → Keeps w h x
zero_keeps w h x e l = let none : h - x ≡ h = omega arith in rw none

module _ {w : List ℕ} {i h : ℕ} where
  -- at the first linked shift nothing is settled
  pub narrowing_begins : {next : List ℕ} → 1 ≤ length w → ShiftsLinked w i next → Narrowing w i h next None 0 (get_or next 0 0)
  narrowing_begins {next} some r =
      let first = r.after 0 some (inl refl) in
      let settled : (x : ℕ) → Left w i x → Settled w i h (get_or next 0 0) x = λ x q.
      (q, λ b. ⊎_elim (λ l. absurd (first.none_between x l b q)) (λ z. zero_keeps w h x (omega arith)) (le_or_lt 1 x)) in
      record {
        positive = first.above;
        within = first.within;
        linked_here = first.has;
        linked = linked_same settled (λ x q. q.0) r;
        before_below = first.above;
        before_linked = inl refl;
        none_between = λ z a b q. first.none_between z a b q.0;
        least_so_far = λ z a b q. absurd (first.none_between z a b q);
      }

  module _ {next : List ℕ} {least : Option ℕ} {before k : ℕ} (r : Narrowing w i h next least before k) (inside : h < length w) (turn : k ≤ h) where
    abbrev after : ℕ
    after = get_or next k 0

    -- the linked shift after k, with none between
    pub next_is : Next (Settled w i h k) (length w) k after
    next_is = r.linked.after k (omega (arith, turn, inside)) (inr (r.linked_here, λ b. absurd (omega arith)))

    none_after : (z : ℕ) → k < z → z < after → Left w i z → ⊥
    none_after z a b q = next_is.none_between z a b (q, λ c. absurd (omega arith))

    -- what is settled up to the next, and what was up to k
    less_settled : (x : ℕ) → Settled w i h after x → Settled w i h k x
    less_settled x q = (q.0, λ b. q.1 (omega (arith, next_is.above)))

    more_settled : (x : ℕ) → (x ≡ k → Keeps w h k) → Settled w i h k x → Settled w i h after x
    more_settled x here q = (
      q.0,
      λ b.
          ⊎_elim
          (λ l. ⊎_elim (λ e. rw e at (here (sym e))) (λ c. absurd (none_after x c b q.0)) (eq-or-lt_of_le l))
          q.1
          (le_or_lt k x),
    )

    -- where k keeps what h shows, it stays linked
    pub stays : byte w (h - k) ≡ byte w h → Narrowing w i h next least k after
    stays same =
        record {
          positive = omega (arith, next_is.above);
          within = next_is.within;
          linked_here = next_is.has.0;
          linked = linked_same (λ x. more_settled x (λ e l. same)) less_settled r.linked;
          before_below = next_is.above;
          before_linked = inr (r.linked_here, λ b l. same);
          none_between = λ z a b q. none_after z a b q.0;
          least_so_far = kept least r.least_so_far;
        }
      where
        kept : (x : Option ℕ) → LeastUnlinked w i h x k → LeastUnlinked w i h x after
        kept None all = λ z a b q.
            let here : InPos w (byte w h) h k = (turn, same) in
            ⊎_elim
            (λ l. ⊎_elim (λ e. rw e at here) (λ c. absurd (none_after z c b q)) (eq-or-lt_of_le l))
            (λ l. all z a l q)
            (le_or_lt k z)
        kept (Some x) u = record {
          positive = u.positive;
          below = omega (arith, u.below, next_is.above);
          left = u.left;
          differs = u.differs;
          before = u.before;
        }

    -- else it is unlinked
    module _ (differs : byte w (h - k) ≢ byte w h) (room : before < length next) where
      -- a settled shift is not k
      not_here : (x : ℕ) → Settled w i h after x → x ≢ k
      not_here x q e = differs (rw e at q.1 (omega (arith, next_is.above)) turn)

      none_up_to : (z : ℕ) → before < z → z < after → Settled w i h after z → ⊥
      none_up_to z a b q =
          ⊎_elim
          (λ l. ⊎_elim (λ e. not_here z q (sym e)) (λ c. none_after z c b q.0) (eq-or-lt_of_le l))
          (λ l. r.none_between z a l (less_settled z q))
          (le_or_lt k z)

      -- the shift after one that is linked and not the one before k is not k
      not_next : (x : ℕ) → x ≢ before → (x ≡ 0) ⊎ Settled w i h after x → Next (Settled w i h k) (length w) x k → ⊥
      not_next x other linked n =
          ⊎_elim
          (λ l. ⊎_elim (λ z. absurd (omega arith)) (λ q. r.none_between x l n.above (less_settled x q)) linked)
          (λ l. ⊎_elim (λ z. absurd (omega arith)) (λ q. n.none_between before l r.before_below q) r.before_linked)
          (lt_or_gt before x other)
        where
          lt_or_gt : (a b : ℕ) → b ≢ a → (a < b) ⊎ (b < a)
          lt_or_gt a b d = ⊎_elim (λ l. ⊎_elim (λ e. absurd (d (sym e))) inl (eq-or-lt_of_le l)) inr (le_or_lt a b)

      relinked : Linked (Settled w i h after) (length w) (set next before after)
      relinked = record {
        room = length-set next before after ∙ r.linked.room;
        after = λ x l linked.
            ⊎_elim
            (λ e.
            rw e
            (rw (get_or-set_same next before after 0 room)
            (record {
              above = omega (arith, r.before_below, next_is.above);
              within = next_is.within;
              has = (next_is.has.0, λ b. absurd (omega arith));
              none_between = none_up_to;
            })))
            (λ d.
            let n = r.linked.after x l (⊎_elim inl (λ q. inr (less_settled x q)) linked) in
            rw (get_or-set_other next before x after 0 d)
            (record {
              above = n.above;
              within = n.within;
              has = more_settled _ (λ e. absurd (not_next x d linked (rw e at n))) n.has;
              none_between = λ z a b q. n.none_between z a b (less_settled z q);
            }))
            (eq_or_ne x before);
      }

      -- and k is the least one where there was none
      unlinked : (x : Option ℕ) → LeastUnlinked w i h x k → LeastUnlinked w i h (option_or x (Some k)) after
      unlinked None all = record {
        positive = r.positive;
        below = next_is.above;
        left = r.linked_here;
        differs = (turn, differs);
        before = all;
      }
      unlinked (Some x) u = record {
        positive = u.positive;
        below = omega (arith, u.below, next_is.above);
        left = u.left;
        differs = u.differs;
        before = u.before;
      }

      pub goes : Narrowing w i h (set next before after) (option_or least (Some k)) before after
      goes = record {
        positive = omega (arith, next_is.above);
        within = next_is.within;
        linked_here = next_is.has.0;
        linked = relinked;
        before_below = omega (arith, r.before_below, next_is.above);
        before_linked = ⊎_elim inl (λ q. inr (q.0, λ b. q.1 r.before_below)) r.before_linked;
        none_between = none_up_to;
        least_so_far = unlinked least r.least_so_far;
      }

  -- past h the shifts are narrowed by it
  module _
      {next : List ℕ} {least : Option ℕ} {before k : ℕ} (r : Narrowing w i h next least before k) (some : i < length w)
      (at : get_or (order w) i 0 ≡ h) (past : h < k) where
    pub narrowed : ShiftsLinked w (suc i) next
    narrowed = linked_same all_keep settled r.linked
      where
        all_keep : (x : ℕ) → Settled w i h k x → Left w (suc i) x
        all_keep x ((keep, no_period), here) = (λ y l. ⊎_elim (λ e. rw e (rw at (λ b. here (omega arith) b))) (λ c. keep y c) (eq-or-lt_of_le (below y l)), no_period)
          where
            below : (y : ℕ) → y < suc i → y ≤ i
            below y l = omega arith

        settled : (x : ℕ) → Left w (suc i) x → Settled w i h k x
        settled x (keep, no_period) = ((λ y l. keep y (omega arith), no_period), λ b. rw at at (keep i (omega arith)))

    -- and the least that was unlinked, or else k, is the least that is allowed
    pub least_left : LeastLeft w i (unwrap_or least k)
    least_left = of least r.least_so_far
      where
        of : (x : Option ℕ) → LeastUnlinked w i h x k → LeastLeft w i (unwrap_or x k)
        of None all = record {
          positive = r.positive;
          within = r.within;
          left = r.linked_here;
          unlike = λ _. rw at (λ (b, q). omega arith);
          least = λ j a b left unlike. unlike some (rw at (all j a b left));
        }
        of (Some x) u = record {
          positive = u.positive;
          within = omega (arith, u.below, r.within);
          left = u.left;
          unlike = λ _. rw at (λ (b, q). u.differs.1 q);
          least = λ j a b left unlike. unlike some (rw at (u.before j a b left));
        }
