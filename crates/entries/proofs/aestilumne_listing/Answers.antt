-- Assumes nothing.
use Rattle.entries.proofs.Laws.{bad_fits, bad_listing, loaded_good, listed_fits, good_listing}
use Rattle.entries.proofs.aestilumne_listing.Goals as goal

pub of_bad_file-requires : goal.of_bad_file-requires
of_bad_file-requires c = bad_fits _ c.in-Err.ensures

pub returns-in-Err : goal.returns-in-Err
returns-in-Err c = bad_listing _ c.in-Err.ensures c.of_bad_file.ensures _ _

pub list-requires : goal.list-requires
list-requires c = loaded_good _ c.in-Ok.ensures.1

pub of_listed-requires : goal.of_listed-requires
of_listed-requires c = listed_fits _ c.in-Ok.ensures.1 _ c.list.ensures

pub returns-in-Ok : goal.returns-in-Ok
returns-in-Ok c = good_listing _ c.in-Ok.ensures.1 _ c.list.ensures c.of_listed.ensures
