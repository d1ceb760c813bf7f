-- The set by which a test joined of others by `&&`, `||` and `!` is proved to be the `and`, `or` and `neg` of what they test.
use Rattle.sets.proofs.Tests.{not_neg, and_given, and_fails_l, or_l, or_given}

pub ruleset joined = (not_neg, and_given, and_fails_l, or_l, or_given)
