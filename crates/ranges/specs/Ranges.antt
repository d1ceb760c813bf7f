-- Document 01, "Order, ranges, tables": authority ranges, and ranges with brackets. f says who is senior to whom.
use Rattle.std.specs.Prelude.{◌≡◌, Bool, true, false, ℕ, eqb}
use Rattle.sets.specs.Tests.{◌and◌, ◌or◌, neg, ◌implies◌, ◌iff◌}
use Rattle.sets.specs.Sets.{has, all, any}
use Rattle.order.specs.Order.{Relation, at_least}

-- "A can-modify row names an authority range (low, high): the roles strictly between"
unfoldable pub inside : Relation → ℕ → ℕ → ℕ → Bool
inside f low high r = f r low and f high r

-- "Can-assign and can-revoke rows carry two brackets: each end is included or not." In the file: "1 = low included, 2 = high included, added".
-- "A role is in the range if it is low, included, or senior to low, and also is high, included, or junior to high."
unfoldable pub in_range : Relation → ℕ → ℕ → ℕ → ℕ → Bool
in_range f low high brackets r =
    ((eqb r low and has brackets 0) or f r low) and ((eqb r high and has brackets 1) or f high r)

-- "A range is encapsulated if for each role r in it and each role s outside it: s is senior to r exactly if s is high or senior to high,
-- and junior to r exactly if s is low or junior to low."
unfoldable pub encapsulated : ℕ → Relation → ℕ → ℕ → Bool
encapsulated used f low high =
    all 64 (λ r. inside f low high r implies all 64 (λ s. (has used s and neg (inside f low high s))
    implies ((f s r iff at_least f s high) and (f r s iff at_least f low s))))

-- of one role r: what is outside stands above it exactly if it is above the range, and below it exactly if it is below the range
unfoldable pub parted : Relation → ℕ → (ℕ → Bool) → (ℕ → Bool) → (ℕ → Bool) → Bool
parted f r outside above below = all 64 (λ s. outside s implies ((f s r iff above s) and (f r s iff below s)))

-- each role of a set is parted so from the roles outside by the two ends of a range
unfoldable pub parted_by_ends : Relation → ℕ → ℕ → ℕ → ℕ → Bool
parted_by_ends f low high set outside = all 64 (λ r. has set r implies parted f r (has outside) (λ s. at_least f s high) (at_least f low))

-- encapsulated, as a statement
pub record Encapsulated (used : ℕ) (f : Relation) (low high : ℕ) : Type 0 where
  pub seniors : (r s : ℕ) → inside f low high r ≡ true → has used s ≡ true → inside f low high s ≡ false → f s r ≡ at_least f s high
  pub juniors : (r s : ℕ) → inside f low high r ≡ true → has used s ≡ true → inside f low high s ≡ false → f r s ≡ at_least f low s

-- "Two ranges overlap in part if they share a role and each has one that the other lacks." p and q say who is in the one and in the other.
unfoldable pub overlap_in_part : (ℕ → Bool) → (ℕ → Bool) → Bool
overlap_in_part p q =
    any 64 (λ r. p r and q r) and any 64 (λ r. p r and neg (q r)) and any 64 (λ r. q r and neg (p r))
