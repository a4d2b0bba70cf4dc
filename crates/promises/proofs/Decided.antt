-- Every public operation is decided by its contract.
use Rattle.record.proofs.Viewing.{view_decided, find_decided}
use Rattle.record.proofs.Viewing as viewing
use Rattle.judge.proofs.Promises.{checked_unique}
use Rattle.table.proofs.Tables.{tabled_unique}
use Rattle.replay.proofs.Promises.{replayed_unique}
use Rattle.readoff.proofs.Promises.{read_off_unique}
use Rattle.reader.proofs.Given.{opened_decided, open_decided, item_decided}
use Rattle.reader.proofs.Given as given
use Rattle.listing.proofs.Telling.{listed_unique}
use Rattle.promises.specs.Decided.{Decided}

pub decided : Decided
decided = record {
  check = checked_unique;
  replay = replayed_unique;
  read_off = read_off_unique;
  order_table = tabled_unique;
  view = view_decided;
  opening = opened_decided;
  located = find_decided;
  seen = viewing.part_decided;
  opened = given.part_decided;
  reader = open_decided;
  entry = item_decided;
  listing = listed_unique;
}
