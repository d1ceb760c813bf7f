-- A list that a run fills from the front: what stands in it after each step, and the run that reads what was written for it.
-- Assumes nothing.
use Prim.Native.Nat.{ℕ, zero, suc, ◌+◌, ◌-◌, ◌^◌, ◌<◌, ◌≤◌}
use mathlib.Core.Path.{◌≡◌, sym, ◌∙◌}
use mathlib.Core.List.{List, ◌++◌}
use native.Mathlib.Omega.{arith}
use borrow.Author.Tests.{ltb-true, ltb-false, eqb-true, eqb-false, le-leb}
use lib.Dec.{ltb, eqb, leb}
use lib.ListN.{length, get_or, set, take, replicate, length-append, length-set, length-replicate, get_or-replicate, get_or-append, get_or-eq_default}
use lib.Seq.{get_or-set_same, get_or-set_other, get_or-take, get_or-append-add, ext_get_or, length-take-le}
use Rattle.sets.proofs.Tests.{by_test}
use Rattle.number.specs.Number.{num_bytes}
use Rattle.number.specs.Run.{Step, go, on_num, run, each}
use Rattle.number.proofs.Parts.{Stands, stands_first, stands_second}
use Rattle.number.proofs.Tested.{tested_written}
use Rattle.sections.specs.Numbers.{count_at}

-- ---- the first i of a list, and none past them
unfoldable pub filled_to : {B : Type 0} → B → List B → ℕ → List B
filled_to none l i = take i l ++ replicate (length l - i) none

module _ {B : Type 0} (none : B) where
  -- past the end of a list of them there is none either
  get_d_none : (n j : ℕ) → get_or (replicate n none) j none ≡ none
  get_d_none n j =
      by_test (ltb j n) (λ t. get_or-replicate n j none none (ltb-true j n t))
      (λ t. get_or-eq_default (replicate n none) none {n = j} (omega (arith, ltb-false j n t, length-replicate n none)))

  module _ (l : List B) where
    up_long : (i : ℕ) → i ≤ length l → length (filled_to none l i) ≡ length l
    unfolding filled_to
    up_long i h =
        length-append (take i l) (replicate (length l - i) none)
        ∙ omega (arith, length-take-le i l h, length-replicate (length l - i) none)

    up_done : (i k : ℕ) → i ≤ length l → k < i → get_or (filled_to none l i) k none ≡ get_or l k none
    unfolding filled_to
    up_done i k h b =
        get_or-append (take i l) (replicate (length l - i) none) none k (omega (arith, length-take-le i l h)) ∙ get_or-take i l k none b

    up_rest : (i k : ℕ) → i ≤ length l → i ≤ k → get_or (filled_to none l i) k none ≡ none
    unfolding filled_to
    up_rest i k h b =
        let e : length (take i l) + (k - i) ≡ k = omega (arith, length-take-le i l h) in
        rw (← e) (get_or-append-add (take i l) (replicate (length l - i) none) (k - i) none ∙ get_d_none (length l - i) (k - i))

    pub up_none : filled_to none l 0 ≡ replicate (length l) none
    unfolding filled_to
    up_none = let e : length l - 0 ≡ length l = omega arith in rw e

    -- the next is set
    pub up_set : (i : ℕ) → i < length l → set (filled_to none l i) i (get_or l i none) ≡ filled_to none l (i + 1)
    up_set i h =
        let long = up_long i (omega arith) in
        ext_get_or none (set (filled_to none l i) i (get_or l i none)) (filled_to none l (i + 1))
        (length-set (filled_to none l i) i (get_or l i none) ∙ long ∙ sym (up_long (i + 1) (omega arith)))
        (λ k b. by_test (eqb k i)
        (λ t. rw (eqb-true k i t) (get_or-set_same (filled_to none l i) i (get_or l i none) none (omega arith)
        ∙ sym (up_done (i + 1) i (omega arith) (omega arith))))
        (λ t. get_or-set_other (filled_to none l i) i k (get_or l i none) none (eqb-false k i t)
        ∙ by_test (ltb k i) (λ u. up_done i k (omega arith) (ltb-true k i u) ∙ sym (up_done (i + 1) k (omega arith) (omega (arith, ltb-true k i u))))
        (λ u. up_rest i k (omega arith) (ltb-false k i u) ∙ sym (up_rest (i + 1) k (omega arith) (omega (arith, ltb-false k i u, eqb-false k i t))))))

    -- the next stays, where it is none
    pub up_skip : (i : ℕ) → i < length l → get_or l i none ≡ none → filled_to none l i ≡ filled_to none l (i + 1)
    up_skip i h e =
        ext_get_or none (filled_to none l i) (filled_to none l (i + 1)) (up_long i (omega arith) ∙ sym (up_long (i + 1) (omega arith)))
        (λ k b. by_test (ltb k i) (λ u. up_done i k (omega arith) (ltb-true k i u) ∙ sym (up_done (i + 1) k (omega arith) (omega (arith, ltb-true k i u))))
        (λ u. up_rest i k (omega arith) (ltb-false k i u)
        ∙ by_test (eqb k i) (λ t. rw (eqb-true k i t) (sym (up_done (i + 1) i (omega arith) (omega arith) ∙ e)))
        (λ t. sym (up_rest (i + 1) k (omega arith) (omega (arith, ltb-false k i u, eqb-false k i t))))))

    -- all of it, where none stands past them
    pub up_all : (n : ℕ) → n ≤ length l → ((k : ℕ) → n ≤ k → get_or l k none ≡ none) → filled_to none l n ≡ l
    up_all n h rest =
        ext_get_or none (filled_to none l n) l (up_long n h)
        (λ k b. by_test (ltb k n) (λ u. up_done n k h (ltb-true k n u)) (λ u. up_rest n k h (ltb-false k n u) ∙ sym (rest k (ltb-false k n u))))

-- ---- Where each step reads what was written for it, and goes from one state to the next, the run reads the whole. st i is the state after i steps.
module _ {A : Type 0} (f : ℕ → ℕ → A → Step A) (g : ℕ → List ℕ) (st : ℕ → A) (s : List ℕ) (N : ℕ)
    (reads : (i at : ℕ) → i < N → Stands s at (g i) → f i at (st i) ≡ go (at + length (g i)) (st (i + 1))) where
  pub run_states : (n i at : ℕ) → i + n ≤ N → Stands s at (each g n i) → run f n i at (st i) ≡ go (at + length (each g n i)) (st (i + n))
  unfolding run each
  run_states zero i at h w =
      let e : at + 0 ≡ at = omega arith in
      let z : i + 0 ≡ i = omega arith in
      rw (e, z)
  run_states (suc n) i at h w =
      let r = each g n (i + 1) in
      let one = reads i at (omega arith) (stands_first (g i) r w) in
      let e : at + length (g i) + length r ≡ at + length (g i ++ r) = omega (arith, length-append (g i) r) in
      let z : i + 1 + n ≡ i + suc n = omega arith in
      rw one (run_states n (i + 1) (at + length (g i)) (omega arith) (stands_second (g i) r w) ∙ rw (e, z))

  -- a count, and that many things after it: they are read from the state that the count begins with
  pub counted_read : (most : ℕ) (start : ℕ → A) (at : ℕ) → N ≤ most → N < 2 ^ 64 → start N ≡ st 0 → Stands s at (num_bytes N ++ each g N 0)
      → on_num (count_at s most at) (λ n next. run f n 0 next (start n)) ≡ go (at + length (num_bytes N ++ each g N 0)) (st N)
  unfolding count_at
  counted_read most start at l h b w =
      let c = tested_written (λ x. leb x most) s at N h (le-leb N most l) (stands_first (num_bytes N) (each g N 0) w) in
      let r = run_states N 0 (at + length (num_bytes N)) (omega arith) (stands_second (num_bytes N) (each g N 0) w) in
      let e : at + length (num_bytes N) + length (each g N 0) ≡ at + length (num_bytes N ++ each g N 0) =
      omega (arith, length-append (num_bytes N) (each g N 0)) in
      let z : 0 + N ≡ N = omega arith in
      rw (c, b) (r ∙ rw (e, z))
