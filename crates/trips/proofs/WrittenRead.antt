-- The second round trip: writing what was read gives the same bytes, for every accepted file, and a table's part has exactly the bytes of that table.
-- Assumes nothing.
use Prim.Native.Nat.{ℕ, ◌-◌, ◌<◌, ◌≤◌}
use mathlib.Core.Path.{◌≡◌, refl, sym, ◌∙◌}
use mathlib.Core.Bool.{true, false}
use mathlib.Core.List.{List}
use native.Mathlib.Omega.{arith}
use borrow.Author.Tests.{eqb-true, eqb-false, leb-true}
use lib.Dec.{eqb}
use lib.ListN.{length, get_or}
use lib.Seq.{take_all}
use Rattle.sets.proofs.Tests.{by_test, and_l, and_r}
use Rattle.number.specs.Number.{num_at, num_bytes, part}
use Rattle.number.specs.Run.{Step, go, stop}
use Rattle.number.specs.Number.{Value}
use Rattle.number.proofs.Tested.{tested_was}
use Rattle.sections.specs.Sections.{all_below}
use Rattle.reading.specs.File.{Accepted}
use Rattle.reading.specs.File.{Front}
use Rattle.reading.specs.declared.File.{File}
use Rattle.reading.specs.File.{one_at, Rest, file_at, loaded, read_policy}
use Rattle.reading.proofs.Right.{FrontSteps, RestSteps, file_whole}
use Rattle.reading.proofs.Theorems.{file_end}
use Rattle.parts.specs.Parts.{is_table, start_of, end_of, part_bytes}
use Rattle.parts.proofs.Theorems.{part_is}
use Rattle.layout.specs.Layout.{table_of, tables_bytes, sections_bytes, policy_bytes, table_bytes}
use Rattle.trips.proofs.Exact.{Exact, exact_next, tested_exact}
use Rattle.trips.proofs.WrittenSections.{order_exact, users_exact, permissions_exact}
use Rattle.trips.proofs.WrittenRows.{rows_exact, ranges_exact}

module _ (s : List ℕ) (small : (k : ℕ) → get_or s k 0 < 256) where
  -- ---- the first number, which is 1
  one_exact : {x e : ℕ} → one_at s 0 ≡ Value x e → Exact s 0 e (num_bytes 1)
  unfolding one_at
  one_exact {x} q =
      let z = eqb-true x 1 (tested_was (λ y. eqb y 1) 0 (num_at s 0) q).1 in
      rw z at (tested_exact s small (λ y. eqb y 1) q)

  -- ---- before the tables
  front_exact : {e : ℕ} {f : Front} → FrontSteps s e f → Exact s 0 e (sections_bytes f.orders.roles f.orders.admins f.people f.permissions)
  unfolding sections_bytes
  front_exact k =
      exact_next (exact_next (exact_next (exact_next (one_exact k.one.1)
      (order_exact s small (all_below 64) k.first k.roles))
      (order_exact s small (all_below 16) k.second k.admins))
      (users_exact s small _ _ k.third k.people))
      (permissions_exact s small _ k.fourth k.permissions)

  -- ---- the tables
  module _ {roles admins a end : ℕ} {r : Rest} (k : RestSteps s roles admins a end r) where
    rest_exact : Exact s a end (tables_bytes r.tables r.modify)
    unfolding tables_bytes table_of
    rest_exact =
        rw (← k.start, ← k.stop)
        (exact_next (exact_next (exact_next (exact_next (rows_exact s small roles admins true _ k.assign)
        (rows_exact s small roles admins false _ k.revoke))
        (rows_exact s small roles admins true _ k.assignp))
        (rows_exact s small roles admins false _ k.revokep))
        (ranges_exact s small roles admins _ k.modify))

    -- table n, from where it starts to where it ends
    table_exact : (n : ℕ) → 1 ≤ n → n ≤ 5 → Exact s (start_of r.places n) (end_of r.places n) (table_of r.tables r.modify n)
    unfolding table_of start_of end_of
    table_exact n l h =
        by_test (eqb n 1) (λ t. rw (eqb-true n 1 t) (rows_exact s small roles admins true _ k.assign))
        (λ t1. by_test (eqb n 2) (λ t. rw (eqb-true n 2 t) (rows_exact s small roles admins false _ k.revoke))
        (λ t2. by_test (eqb n 3) (λ t. rw (eqb-true n 3 t) (rows_exact s small roles admins true _ k.assignp))
        (λ t3. by_test (eqb n 4) (λ t. rw (eqb-true n 4 t) (rows_exact s small roles admins false _ k.revokep))
        (λ t4.
        let e : n ≡ 5 = omega (arith, eqb-false n 1 t1, eqb-false n 2 t2, eqb-false n 3 t3, eqb-false n 4 t4) in
        rw e (ranges_exact s small roles admins _ k.modify)))))

  -- ---- the file
  whole_part : part s 0 (length s) ≡ s
  whole_part = take_all (length s - 0) s (omega arith)

  module _ {e : ℕ} {f : File} (q : file_at s ≡ go e f) where
    pub file_written : policy_bytes f.policy ≡ s
    unfolding policy_bytes
    file_written =
        let w = file_whole s q in
        let x = exact_next (front_exact w.front_steps) (rest_exact w.rest_steps) in
        let z : w.end ≡ length s = omega (arith, w.judged.place, file_end s q) in
        rw w.judged.is (x.bytes ∙ rw z whole_part)

    -- The part of table k is exactly the bytes that the writer writes for it.
    pub part_written : (k : ℕ) → is_table k ≡ true → part_bytes s k ≡ table_bytes f.policy k
    unfolding is_table
    part_written k t =
        let w = file_whole s q in
        let x = table_exact w.rest_steps k (leb-true 1 k (and_l _ _ t)) (leb-true k 5 (and_r _ _ t)) in
        part_is s k t q ∙ rw w.judged.is (sym x.bytes)

  -- ---- the same of what the reader answers
  of_accepted : (w : Step File) → (loaded w).how ≡ Accepted → (e : ℕ) × (f : File) × (w ≡ go e f)
  of_accepted (go e f) q = (e, f, refl)
  of_accepted (stop c p) q = absurd (let z : ◌≡◌ {A = ℕ} 0 1 = cc in omega arith)

  module _ (q : (read_policy s).how ≡ Accepted) where
    -- Writing what was read gives the same bytes.
    pub written_read_policy : policy_bytes (read_policy s).policy ≡ s
    unfolding read_policy
    written_read_policy = let w = of_accepted (file_at s) q in rw w.2 (file_written w.2)

    pub part_of_read : (k : ℕ) → is_table k ≡ true → part_bytes s k ≡ table_bytes (read_policy s).policy k
    unfolding read_policy
    part_of_read k t = let w = of_accepted (file_at s) q in rw w.2 (part_written w.2 k t)
