-- What the code's tests on whole sets say of a row, and what it makes of a member's roles.
-- Assumes nothing.
use mathlib.Core.Path.{◌≡◌, sym, ap, ◌∙◌}
use mathlib.Core.Bool.{Bool, true, false}
use Prim.Native.Nat.{ℕ, ◌≤◌, ◌<◌, ◌^◌}
use native.Mathlib.Omega.{arith}
use lib.Dec.{eqb}
use borrow.Author.Tests.{ne_eqb}
use Rattle.sets.specs.Tests.{◌and◌, ◌or◌, neg, ◌implies◌}
use Rattle.sets.specs.Sets.{has, all, any, subset, Exactly}
use Rattle.sets.proofs.Tests.{not_so, clash, same_test, and_i, and_l, and_r, and_given, and_true, and_fails_l, or_given, neg_i, neg_e, implies_i, implies_e}
use Rattle.sets.proofs.Quantifiers.{all_of, all_at, all-and, any_fails, any_none}
use Rattle.sets.proofs.Builders.{set_of_is, exactly_is, empty_test}
use Rattle.policy.specs.declared.Row.{Row}
use Rattle.members.specs.declared.View.{View}
use Rattle.members.specs.Rules.{covers, satisfied, covered, granted, with_role, without_role}
use lib.ListN.{length, take}
use Rattle.std.specs.List.{list_any}
use Rattle.policy.specs.Build.{empty_row}
use Rattle.policy.proofs.Rows.{any_front}

-- no member of s is one of t
apart : (s t : ℕ) → all 64 (λ x. has s x implies neg (has t x)) ≡ neg (any 64 (λ x. has s x and has t x))
apart s t =
    same_test _ _
    (λ q. neg_i _ (any_fails 64 _ (λ x l. not_so _ (λ b. clash (and_r _ _ b) (neg_e _ (implies_e _ _ (all_at 64 _ q x l) (and_l _ _ b)))))))
    (λ q. all_of 64 _ (λ x l. implies_i _ _ (λ h. neg_i _ (not_so _ (λ b. clash (and_i _ _ h b) (any_none 64 _ (neg_e _ q) x l))))))

-- a row's two tests, as the code makes them: s is whether each needed role counts, z the barred roles that count
module _ (v : View) (row : Row) (s : Bool) (e : s ≡ subset 64 row.needed v.needed) where
  split : satisfied v row ≡ (subset 64 row.needed v.needed and neg (any 64 (λ x. has row.barred x and has v.barred x)))
  unfolding satisfied subset
  split = all-and 64 _ _ ∙ ap (λ (b : Bool). subset 64 row.needed v.needed and b) (apart row.barred v.barred)

  pub not_satisfied : s ≡ false → false ≡ satisfied v row
  not_satisfied n = sym (split ∙ and_fails_l _ _ (sym e ∙ n))

  pub rest-satisfied : s ≡ true → (z : ℕ) → z < 2 ^ 64 → Exactly z (λ x. has row.barred x and has v.barred x) → eqb z 0 ≡ satisfied v row
  rest-satisfied y z l q = empty_test 64 z _ l q ∙ sym (split ∙ and_given _ _ (sym e ∙ y))

-- the rows of the table that are in use, as the code goes over them
module _ (v : View) (b : ℕ) (h : v.table.count ≤ length v.table.rows) where
  pub covered_rows : list_any (covers v b) (take v.table.count v.table.rows) ≡ covered v b
  unfolding covered
  covered_rows = any_front (covers v b) _ empty_row _ h

  pub granted_rows : list_any (λ row. covers v b row and satisfied v row) (take v.table.count v.table.rows) ≡ granted v b
  unfolding granted
  granted_rows = any_front (λ row. covers v b row and satisfied v row) _ empty_row _ h

-- the roles after, as the code makes them
module _ (s b r : ℕ) (h : r < 2 ^ 64) where
  pub with_is : Exactly r (λ n. eqb n b or has s n) → r ≡ with_role s b
  unfolding with_role
  with_is q = exactly_is 64 r _ h q

  pub without_is : Exactly r (λ n. has s n and neg (eqb n b)) → r ≡ without_role s b
  unfolding without_role
  without_is q = exactly_is 64 r _ h q

-- a number that no role has changes nothing
module _ (s t b : ℕ) (e : s ≡ t) where
  pub with_past : s < 2 ^ 64 → 64 ≤ b → s ≡ with_role t b
  unfolding with_role
  with_past h l = rw (← e) (set_of_is 64 s _ h (λ n m. sym (or_given _ _ (ne_eqb n b (omega arith)))))

  pub without_past : s < 2 ^ 64 → 64 ≤ b → s ≡ without_role t b
  unfolding without_role
  without_past h l =
      rw (← e) (set_of_is 64 s _ h (λ n m. sym (ap (λ (t : Bool). has s n and t) (neg_i _ (ne_eqb n b (omega arith))) ∙ and_true (has s n))))
