use Rattle.members.specs.Rules.{user_view}
use Rattle.members.proofs.user_view.Goals as goal

pub returns : goal.returns
unfolding user_view
returns c = rw (c.usable_by.ensures, c.is_below.ensures, c.reached-held.ensures, c.set_at-mine.ensures)
