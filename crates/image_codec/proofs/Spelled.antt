-- Bytes with no fault are those of the image that they spell, and the bytes of an image have no fault and spell it.
use Rattle.std.proofs.Common.{◌≡◌, ℕ, ◌+◌, ◌*◌, ◌%◌, ◌≤◌, ◌<◌, Bool, true, false, cond, List, [], ◌∷◌, ◌++◌, length, drop, slice_index, Option, Some, None, refl, sym, ap, ◌∙◌, arith}
use Rattle.std.proofs.lemmas.Bool.{and_from, and_parts, eqb-true, leb-true, eq-eqb, le-leb}
use Rattle.std.proofs.lemmas.List.{length-drop, get_or-drop}
use Rattle.image_codec.specs.declared.image.Image.{Image}
use Rattle.image_codec.specs.declared.image.Refusal.{Refusal}
use Rattle.image_codec.specs.Image.{Check, checks, field_at, field_bytes, fields_of, first_refusal, header_bytes, image_bytes, image_fault, image_of, magic, HasFields, IsAligned, IsImage}
use Rattle.image_codec.proofs.Fields.{drop-field, drop-four, field_bytes-fields_of, field_of-field_bytes, fields_of-field_bytes, length-field_bytes}

passed_test : (b : Bool) (r : Refusal) (rest : Option Refusal) → cond b rest (Some r) ≡ None → (b ≡ true) × (rest ≡ None)
passed_test true r rest h = (refl, h)
passed_test false r rest h = cc

abbrev AreAllPassed : List Check → Type 0
AreAllPassed [] = Unit {0}
AreAllPassed (c ∷ cs) = (c.passes ≡ true) × AreAllPassed cs

-- where nothing is refused, every check is passed
all_passed : (cs : List Check) → first_refusal cs ≡ None → AreAllPassed cs
all_passed [] h = tt
all_passed (c ∷ cs) h =
    let test = passed_test c.passes c.refusal (first_refusal cs) h in
    (test.0, all_passed cs test.1)

-- what bytes with no fault keep
record Kept (bytes : List ℕ) : Type 0 where
  long : 24 ≤ length bytes
  first : slice_index bytes 0 ≡ 69
  second : slice_index bytes 1 ≡ 72
  third : slice_index bytes 2 ≡ 67
  fourth : slice_index bytes 3 ≡ 73
  version : field_at bytes 4 ≡ 1
  frindex : field_at bytes 8 ≤ 16383
  list_base : field_at bytes 12 % 4096 ≡ 0
  async_at : field_at bytes 16 % 32 ≡ 0
  whole : field_at bytes 20 % 1024 ≡ 0
  least : 1024 ≤ field_at bytes 20
  most : field_at bytes 20 ≤ 262144
  total : length bytes ≡ 24 + 4 * field_at bytes 20

kept : (bytes : List ℕ) → image_fault bytes ≡ None → Kept bytes
kept bytes h =
    let tests = all_passed (checks bytes) h in
    let three = and_parts _ _ tests.1.0 in
    let two = and_parts _ _ three.0 in
    let one = and_parts _ _ two.0 in
    let most = and_parts _ _ tests.1.1.1.1.1.1.0 in
    let least = and_parts _ _ most.0 in
    record {
      long = leb-true _ _ tests.0;
      first = eqb-true _ _ one.0;
      second = eqb-true _ _ one.1;
      third = eqb-true _ _ two.1;
      fourth = eqb-true _ _ three.1;
      version = eqb-true _ _ tests.1.1.0;
      frindex = leb-true _ _ tests.1.1.1.0;
      list_base = eqb-true _ _ tests.1.1.1.1.0;
      async_at = eqb-true _ _ tests.1.1.1.1.1.0;
      whole = eqb-true _ _ least.0;
      least = leb-true _ _ least.1;
      most = leb-true _ _ most.1;
      total = eqb-true _ _ tests.1.1.1.1.1.1.1.0;
    }

-- four bytes and what follows them, from their values
four_are : (bytes tail : List ℕ) (a b c d e f g h : ℕ) → bytes ≡ a ∷ b ∷ c ∷ d ∷ tail → a ≡ e → b ≡ f → c ≡ g → d ≡ h → bytes ≡ e ∷ f ∷ g ∷ h ∷ tail
four_are bytes tail a b c d e f g h whole p q r s = cc

-- the bytes of a field before a rest that is known
before_rest : (n : ℕ) (rest tail whole : List ℕ) → rest ≡ tail → whole ≡ field_bytes n ++ tail → field_bytes n ++ rest ≡ whole
before_rest n rest tail whole e w = ap (λ (t : List ℕ). field_bytes n ++ t) e ∙ sym w

same_field : (m n : ℕ) (rest : List ℕ) → m ≡ n → field_bytes m ++ rest ≡ field_bytes n ++ rest
same_field m n rest e = ap (λ (k : ℕ). field_bytes k ++ rest) e

pub spelled : (bytes : List ℕ) → ((i : ℕ) → slice_index bytes i < 256) → image_fault bytes ≡ None → IsImage bytes (image_of bytes)
unfolding header_bytes
spelled bytes small h =
    let k = kept bytes h in
    let long = k.long in
    let start = four_are bytes (drop 4 bytes) _ _ _ _ 69 72 67 73 (drop-four bytes 0 (omega arith)) k.first k.second k.third k.fourth in
    let below : (i : ℕ) → slice_index (drop 24 bytes) i < 256 = λ i. rw (get_or-drop 24 bytes i 0) (small (24 + i)) in
    let total = k.total in
    let cut = length-drop 24 bytes in
    let words = field_bytes-fields_of (drop 24 bytes) below (omega arith) in
    let count : length (fields_of (drop 24 bytes)) ≡ field_at bytes 20 = omega (arith, words.1) in
    let at_20 = same_field _ _ _ count ∙ before_rest _ _ _ _ words.0 (drop-field bytes 20 small (omega arith)) in
    let at_16 = before_rest _ _ _ _ at_20 (drop-field bytes 16 small (omega arith)) in
    let at_12 = before_rest _ _ _ _ at_16 (drop-field bytes 12 small (omega arith)) in
    let at_8 = before_rest _ _ _ _ at_12 (drop-field bytes 8 small (omega arith)) in
    let at_4 = same_field _ _ _ (sym k.version) ∙ before_rest _ _ _ _ at_8 (drop-field bytes 4 small (omega arith)) in
    record {
      bytes_are = ap (λ (t : List ℕ). magic ++ t) at_4 ∙ sym start;
      aligned = record {
        frindex = k.frindex;
        list_base = k.list_base;
        async_at = k.async_at;
        whole = rw count k.whole;
        least = rw count k.least;
        most = rw count k.most;
      };
    }

nothing_refused : (cs : List Check) → AreAllPassed cs → first_refusal cs ≡ None
nothing_refused [] h = refl
nothing_refused (c ∷ cs) h = rw (h.0, nothing_refused cs h.1) refl

-- what is read of bytes is the image
record Reads (bytes : List ℕ) (i : Image) : Type 0 where
  first : slice_index bytes 0 ≡ 69
  second : slice_index bytes 1 ≡ 72
  third : slice_index bytes 2 ≡ 67
  fourth : slice_index bytes 3 ≡ 73
  version : field_at bytes 4 ≡ 1
  frindex : field_at bytes 8 ≡ i.frindex
  list_base : field_at bytes 12 ≡ i.list_base
  async_at : field_at bytes 16 ≡ i.async_at
  count : field_at bytes 20 ≡ length i.words
  total : length bytes ≡ 24 + 4 * length i.words
  words : fields_of (drop 24 bytes) ≡ i.words

reads : (i : Image) → IsAligned i → HasFields i → Reads (image_bytes i) i
unfolding header_bytes
reads i a f = record {
  first = refl;
  second = refl;
  third = refl;
  fourth = refl;
  version = refl;
  frindex = field_of-field_bytes i.frindex (omega (arith, a.frindex));
  list_base = field_of-field_bytes i.list_base f.list_base;
  async_at = field_of-field_bytes i.async_at f.async_at;
  count = field_of-field_bytes (length i.words) (omega (arith, a.most));
  total = omega (arith, length-field_bytes i.words);
  words = fields_of-field_bytes i.words f.words;
}

no_fault : (bytes : List ℕ) (i : Image) → Reads bytes i → IsAligned i → image_fault bytes ≡ None
no_fault bytes i r a =
    let magic_test = and_from _ _ (and_from _ _ (and_from _ _ (eq-eqb _ _ r.first) (eq-eqb _ _ r.second)) (eq-eqb _ _ r.third)) (eq-eqb _ _ r.fourth) in
    let whole : field_at bytes 20 % 1024 ≡ 0 = rw r.count a.whole in
    let least : 1024 ≤ field_at bytes 20 = rw r.count a.least in
    let most : field_at bytes 20 ≤ 262144 = rw r.count a.most in
    let count_test = and_from _ _ (and_from _ _ (eq-eqb _ _ whole) (le-leb _ _ least)) (le-leb _ _ most) in
    let total : length bytes ≡ 24 + 4 * field_at bytes 20 = omega (arith, r.total, r.count) in
    let frindex : field_at bytes 8 ≤ 16383 = rw r.frindex a.frindex in
    let list_base : field_at bytes 12 % 4096 ≡ 0 = rw r.list_base a.list_base in
    let async_at : field_at bytes 16 % 32 ≡ 0 = rw r.async_at a.async_at in
    nothing_refused (checks bytes) (
      le-leb 24 (length bytes) (omega (arith, r.total)),
      (
        magic_test,
        (
          eq-eqb _ _ r.version,
          (
            le-leb _ _ frindex,
            (
              eq-eqb _ _ list_base,
              (
                eq-eqb _ _ async_at,
                (
                  count_test,
                  (eq-eqb _ _ total, tt),
                ),
              ),
            ),
          ),
        ),
      ),
    )

same_image : (frindex list_base async_at : ℕ) (words : List ℕ) (i : Image) → frindex ≡ i.frindex → list_base ≡ i.list_base → async_at ≡ i.async_at → words ≡ i.words
    → record { frindex = frindex; list_base = list_base; async_at = async_at; words = words } ≡ i
same_image frindex list_base async_at words i f l a w = rw (f, l, a, w) refl

spells : (bytes : List ℕ) (i : Image) → Reads bytes i → image_of bytes ≡ i
spells bytes i r = same_image (field_at bytes 8) (field_at bytes 12) (field_at bytes 16) (fields_of (drop 24 bytes)) i r.frindex r.list_base r.async_at r.words

-- The bytes of an image have no fault, and spell it.
pub read_back : (i : Image) → IsAligned i → HasFields i → (image_fault (image_bytes i) ≡ None) × (image_of (image_bytes i) ≡ i)
read_back i a f =
    let r = reads i a f in
    (no_fault (image_bytes i) i r a, spells (image_bytes i) i r)
