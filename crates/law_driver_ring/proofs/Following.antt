-- A buffer that is told was told before.
use Rattle.std.proofs.Common.{◌*◌, option_map, ap, refl}
use Rattle.law_driver_ring.proofs.Common.{lent_of}
use Rattle.law_driver_ring.specs.Inventory.{sort_of, OfBuffer}
use Rattle.law_driver_ring.specs.Following.{ExtentsFollow}

pub extents_follow : ExtentsFollow
extents_follow v w parts follows driven lies = record {
  list = lies.list;
  buffers = λ t b c cs y x pages k bs is piece first here j has.
      let lent = lent_of w (32 * x.queue) (32 * c) OfBuffer c refl refl (driven.only (32 * x.queue) (32 * c) OfBuffer (ap (option_map sort_of) here)) in
      let was = follows.buffered t b c cs y x is piece first lent in
      let inside = lies.buffers t b c cs y x pages k bs was.transfer was.piece was.first here j has in
      record { at = inside.at; among = inside.among; has = follows.slots inside.at j inside.has };
}
