use Rattle.std.proofs.Common.{◌≡◌, ◌<◌, set, length, get_or, ap, ◌∙◌, arith}
use Rattle.drv_periodic.specs.Left.{read_by}
use Rattle.drv_periodic.proofs.Gone.{mapped_more, mapped_at}
use Rattle.drv_periodic.proofs.readings.read_all.Goals as goal

pub loop-place-preserved : goal.loop-place-preserved
loop-place-preserved c =
    let xs = c.args.departures.now.items in
    let k = c.loop-place.place in
    let f = read_by c.args.frindex in
    let d = c.index.result.now in
    let inside : k < length xs = omega arith in
    let here : d ≡ get_or xs k d = c.index.ensures ∙ ap (λ ys. get_or ys k d) c.loop-place.invariant.so_far ∙ mapped_at f xs k d inside in
    record {
      so_far = ap (λ ys. set ys k c.read_one.result) c.loop-place.invariant.so_far ∙ mapped_more f xs k d c.read_one.result inside (c.read_one.ensures ∙ ap f here);
      len = c.loop-place.invariant.len;
      capacity = c.loop-place.invariant.capacity;
    }
