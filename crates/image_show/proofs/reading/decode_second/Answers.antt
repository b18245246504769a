use Rattle.std.proofs.Common.{◌≡◌, None, sym, subst}
use Rattle.image_codec.specs.Image.{first_refusal}
use Rattle.image_show.specs.ImageAt.{checks_at, IsAlignedAt}
use Rattle.image_show.proofs.Aligned.{aligned}
use Rattle.image_show.proofs.reading.decode_second.Goals as goal

-- the bytes have no fault, and the image is the one that they spell
pub returns-in-Ok-clause-aligned : goal.returns-in-Ok-clause-aligned
returns-in-Ok-clause-aligned c =
    let none : first_refusal (checks_at c.args.bytes.now) ≡ None = cc in
    subst IsAlignedAt (sym c.in-Ok.ensures) (aligned c.args.bytes.now none)
