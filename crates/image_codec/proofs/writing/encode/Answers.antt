use Rattle.std.proofs.Common.{◌≡◌, ℕ, List, [], ◌++◌, append-nil, Option, ap, ◌∙◌, subst, arith}
use Rattle.std.specs.List.{flat_map}
use Rattle.usb_base.specs.Outside.{AppendsPrefix, one_more}
use Rattle.image_codec.specs.Image.{field_bytes, header_bytes, image_bytes}
use Rattle.image_codec.specs.Printing.{Passes}
use Rattle.std.proofs.lemmas.Result.{err_from_is_err_and}
use Rattle.image_codec.proofs.Passing.{prefix_more, prefix_within}
use Rattle.image_codec.proofs.Paged.{on_flush, on_join}
use Rattle.image_codec.proofs.writing.encode.Goals as goal

-- the header and the words are the image
whole : (header words header_of words_of : List ℕ) → header ≡ header_of → words ≡ words_of
    → header ++ flat_map field_bytes words ≡ header_of ++ flat_map field_bytes words_of
whole header words header_of words_of h w = ap (λ (t : List ℕ). t ++ flat_map field_bytes words) h ∙ ap (λ (t : List ℕ). header_of ++ flat_map field_bytes t) w

from_empty : (a b : Option (List ℕ)) (p q xs : List ℕ) → p ≡ [] → Passes a b p q xs → Passes a b [] q xs
from_empty a b p q xs e h = subst (λ (t : List ℕ). Passes a b t q xs) e h

-- a front part of the header is one of the image
at_header : (a b : Option (List ℕ)) (p header header_of words : List ℕ) → p ≡ [] → header ≡ header_of → AppendsPrefix a b (p ++ header)
    → AppendsPrefix a b (header_of ++ words)
at_header a b p header header_of words e same h =
    let front = subst (λ (t : List ℕ). AppendsPrefix a b (t ++ header)) e h in
    subst (λ (t : List ℕ). AppendsPrefix a b (t ++ words)) same (prefix_more a b header words front)

pub returns-in_err-put : goal.returns-in_err-put
returns-in_err-put g c =
    let p = err_from_is_err_and c.from_residual.result c.from_residual.ensures.1 in
    rw p.1 (record {
      ok = tt;
      err = at_header _ _ c.new-page.result c.header_of.result _ (flat_map field_bytes c.args.image.now.words) c.new-page.ensures c.header_of.ensures c.in_err-put.ensures.err;
      stays = tt;
      rises = c.in_err-put.ensures.rises;
      counted = c.in_err-put.ensures.counted;
    })

pub returns-in_err-put_words : goal.returns-in_err-put_words
returns-in_err-put_words g c =
    let p = err_from_is_err_and c.from_residual-in_err-put_words.result c.from_residual-in_err-put_words.ensures.1 in
    let first = from_empty _ _ c.new-page.result _ c.header_of.result c.new-page.ensures c.in_ok-put.ensures.ok in
    let all = whole c.header_of.result c.as_slice.result.now (header_bytes c.args.image.now) c.args.image.now.words c.header_of.ensures c.as_slice.ensures in
    let plain = ap (λ (t : List ℕ). c.header_of.result ++ t) (append-nil (flat_map field_bytes c.as_slice.result.now)) ∙ all in
    rw p.1 (record {
      ok = tt;
      err = prefix_within _ _ _ [] _ c.header_of.result _ [] (image_bytes c.args.image.now) first c.in_err-put_words.ensures.err plain;
      stays = tt;
      rises = c.in_err-put_words.ensures.rises ∙ ap one_more c.in_ok-put.ensures.stays;
      counted = omega (arith, c.in_err-put_words.ensures.counted, c.in_ok-put.ensures.counted);
    })

pub returns : goal.returns
returns g c =
    let all = whole c.header_of.result c.as_slice.result.now (header_bytes c.args.image.now) c.args.image.now.words c.header_of.ensures c.as_slice.ensures in
    let printed = on_join _ _ _ _ _ _ _ c.new-page.result _ _ c.header_of.result _ (image_bytes c.args.image.now) c.in_ok-put.ensures c.in_ok-put_words.ensures all in
    on_flush _ _ _ _ _ _ _ c.new-page.result _ _ c.new-page.ensures printed c.flush.ensures.printed
