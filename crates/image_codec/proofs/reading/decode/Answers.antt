use Rattle.std.proofs.Common.{◌≡◌, None, sym, subst, arith}
use Rattle.image_codec.specs.Image.{image_fault, IsImage}
use Rattle.image_codec.proofs.Spelled.{spelled}
use Rattle.image_codec.proofs.reading.decode.Goals as goal

-- the bytes have no fault, and the image is the one that they spell
pub returns-in-Ok-clause-bytes : goal.returns-in-Ok-clause-bytes
returns-in-Ok-clause-bytes c =
    let none : image_fault c.args.bytes.now ≡ None = cc in
    subst (IsImage c.args.bytes.now) (sym c.in-Ok.ensures) (spelled c.args.bytes.now (λ i. omega (arith, c.type_inv.bytes i)) none)
