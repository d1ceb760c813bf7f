-- Any sequence of requests from a loaded file: each one's output is the next one's input.
use Rattle.std.specs.Prelude.{ℕ, ◌≡◌, List}
use Rattle.requests.specs.declared.Request.{Request}
use Rattle.number.specs.Number.{part}
use Rattle.answers.specs.Answers.{apart}
use Rattle.entries.specs.Entries.{RequestOf}

-- The files that requests reach from a file: that file itself, and what an accepted request writes of one that is reached, up to the length
-- that is returned. A refused request writes nothing, and leaves the file that it was given.
pub data FileReached (start : List ℕ) : List ℕ → Type 0 where
  here : FileReached start start
  next : {file before after : List ℕ} {r : ℕ} (q : Request) → FileReached start file → RequestOf file q before r after
      → (apart r).outcome ≡ 0 → FileReached start (part after 0 (apart r).length)
