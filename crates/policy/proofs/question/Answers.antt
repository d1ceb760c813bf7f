use borrow.Author.Tests.{le-leb, lt-leb}
use Rattle.sets.specs.Tests.{◌or◌}
use Rattle.policy.specs.Question.{may_exercise}
use Rattle.policy.proofs.question.Goals.{then-p-user-via-then-p-user, then-p-user-via-else-p-user+then-p-permission}
use Rattle.policy.proofs.question.Goals as goal

pub returns-then-p-user : goal.returns-then-p-user
unfolding Rattle.policy.specs.Question.question ◌or◌
returns-then-p-user c =
    elim c.then-p-user.branch [
      | then-p-user-via-then-p-user w ↦ simp (le-leb _ _ w.if-p-user.true)
      | then-p-user-via-else-p-user+then-p-permission w ↦ simp (lt-leb _ _ w.if-p-user.false, le-leb _ _ w.if-p-permission.true)
    ]

pub returns : goal.returns
unfolding Rattle.policy.specs.Question.question ◌or◌
returns c =
    simp (
      lt-leb _ _ c.if-p-user.false,
      lt-leb _ _ c.if-p-permission.false,
      c.exercises.ensures,
      c.set_at-held.ensures,
      c.set_at-granted.ensures,
    )
