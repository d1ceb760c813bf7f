-- Assumes nothing.
use mathlib.Core.Path.{refl, ap₂, ◌∙◌}
use Prim.Native.Nat.{ℕ}
use native.Mathlib.Omega.{arith}
use Rattle.std.proofs.lemmas.List.Edits.{fill_by_more}
use Rattle.hierarchy.specs.declared.Site.{Site}
use Rattle.hierarchy.proofs.Laws.{site_sound}
use Rattle.listing.specs.Sites.{site_set}
use Rattle.listing.proofs.Laws.{site_rows}
use Rattle.listing.proofs.gathered.Goals as goal

pub of-ground-requires : goal.of-ground-requires
of-ground-requires c = (c.requires.sizes.modify, λ e. site_sound c.args.p.now c.args.o refl c.requires)

pub tied_roles-tied-requires : goal.tied_roles-tied-requires
tied_roles-tied-requires c = c.requires.sizes

pub loop-j-preserved : goal.loop-j-preserved
loop-j-preserved c = rw c.accepted_row.ensures (fill_by_more _ c.loop-j.row-items c.loop-j.j 0 (omega arith) c.loop-j.invariant)

pub returns : goal.returns
returns c =
    record {
      row = λ k l.
          c.loop-j.invariant k (omega arith)
          ∙ ap₂ (λ (s : Site) (t : ℕ). site_set s t k) c.of-ground.ensures c.tied_roles-tied.ensures ∙ site_rows _ _ k l;
    }
