use Rattle.listing.specs.Listing.{place_count}
use Rattle.number.proofs.Puts.{Putting}
use Rattle.listing.proofs.Laws.{wanted}
use Rattle.listing.proofs.put_entries.Given as goal

abbrev pub invariant-loop-i : goal.invariant-loop-i
invariant-loop-i l = Putting (wanted l.rows) place_count l.initial.out 0 l.i l.out l.at
