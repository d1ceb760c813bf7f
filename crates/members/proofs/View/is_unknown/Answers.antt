use mathlib.Core.Path.{◌≡◌, sym, ap, ◌∙◌}
use Rattle.sets.specs.Tests.{◌and◌, neg}
use Rattle.sets.specs.Sets.{has}
use Rattle.sets.proofs.Tests.{and_fails_l, and_given, not_neg}
use Rattle.members.specs.Rules.{unknown}
use Rattle.members.proofs.View.is_unknown.Goals.{then-self, else-self}
use Rattle.members.proofs.View.is_unknown.Goals as goal

pub returns : goal.returns
unfolding unknown
returns c =
    let v = c.args.self.now in
    let e : c.if-self.result ≡ (v.known and has v.roles.used c.args.b) =
    elim c.if-self.branch [
      | then-self w ↦ w.result-is ∙ w.contains.ensures ∙ sym (and_given _ _ w.if-self.true)
      | else-self w ↦ w.result-is ∙ w.if-self.false ∙ sym (and_fails_l _ _ w.if-self.false)
    ] in
    not_neg _ ∙ ap neg e
