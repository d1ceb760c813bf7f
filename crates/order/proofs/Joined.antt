-- The set by which a test joined of others by `&&` and `||` is proved to be the `and` and `or` of what they test.
-- Assumes nothing.
use Rattle.sets.proofs.Tests.{and_given, and_fails_l, or_l, or_given, or_assoc}

pub ruleset joined = (and_given, and_fails_l, or_l, or_given, or_assoc)
