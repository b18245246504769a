use Rattle.std.proofs.lemmas.Result.{err_from_is_err_and}
use Rattle.image_codec.proofs.Passing.{prefix_more}
use Rattle.image_codec.proofs.page.Page.put.Goals as goal

pub returns-in_err-make_room : goal.returns-in_err-make_room
returns-in_err-make_room g c =
    let p = err_from_is_err_and c.from_residual.result c.from_residual.ensures.1 in
    rw p.1 (record {
      ok = tt;
      err = prefix_more _ _ c.args.self.now c.args.piece.now c.in_err-make_room.ensures.err;
      stays = tt;
      rises = c.in_err-make_room.ensures.rises;
      counted = c.in_err-make_room.ensures.counted;
    })
