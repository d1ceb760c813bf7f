use Rattle.members.specs.Rules.{permission_view}
use Rattle.members.proofs.permission_view.Goals as goal

pub returns : goal.returns
unfolding permission_view
returns c = rw (c.usable_by.ensures, c.is_below.ensures, c.set_at-mine.ensures)
