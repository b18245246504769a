-- Writers to a page in front of a sink, called one after the other.
use Rattle.std.proofs.Common.{◌≡◌, ℕ, List, [], ◌++◌, Option, Result, Ok, Err, ap, subst, ◌∙◌, append-nil, arith}
use Rattle.usb_base.specs.Outside.{Prints, one_more}
use Rattle.image_codec.specs.Printing.{Passes, PrintsOn}
use Rattle.image_codec.proofs.Passing.{appends_flushed, passes_all, passes_from_empty, prefix_all, prefix_flushed, prefix_within}

module _ {K T U E F : Type 0} (written : K → Option (List ℕ)) (faults : K → ℕ) (a b c : K) where
  -- a writer that printed its bytes, and then another writer
  pub on_join : (v : U) (r : Result T E) (p q s xs ys all : List ℕ) → PrintsOn {T = U} {E = F} written faults a b p q (Ok v) xs
      → PrintsOn written faults b c q s r ys → xs ++ ys ≡ all → PrintsOn written faults a c p s r all
  on_join v (Ok x) p q s xs ys all first second e = record {
    ok = passes_all (written a) (written b) (written c) p q s xs ys all first.ok second.ok e;
    err = tt;
    stays = second.stays ∙ first.stays;
    rises = tt;
    counted = omega (arith, first.counted, second.counted);
  }
  on_join v (Err x) p q s xs ys all first second e = record {
    ok = tt;
    err = prefix_within (written a) (written b) (written c) p q xs ys [] all first.ok second.err (ap (λ (t : List ℕ). xs ++ t) (append-nil ys) ∙ e);
    stays = tt;
    rises = second.rises ∙ ap one_more first.stays;
    counted = omega (arith, first.counted, second.counted);
  }

  -- bytes passed, and then a writer failed
  pub on_stop : (e : E) (f : F) (p q s t xs ys zs all : List ℕ) → Passes (written a) (written b) p q xs → faults b ≡ faults a
      → PrintsOn {T = T} {E = E} written faults b c q s (Err e) ys → xs ++ (ys ++ zs) ≡ all → PrintsOn {T = U} {E = F} written faults a c p t (Err f) all
  on_stop e f p q s t xs ys zs all first same second whole = record {
    ok = tt;
    err = prefix_within (written a) (written b) (written c) p q xs ys zs all first second.err whole;
    stays = tt;
    rises = second.rises ∙ ap one_more same;
    counted = omega (arith, same, second.counted);
  }

  -- what was printed on an empty page, and then the page written
  pub on_flush : (v : U) (r : Result T E) (p q xs : List ℕ) → p ≡ [] → PrintsOn {T = U} {E = F} written faults a b p q (Ok v) xs
      → Prints written faults b c r q → Prints written faults a c r xs
  on_flush v (Ok x) p q xs e first second = record {
    ok = appends_flushed (written a) (written b) (written c) q xs (passes_from_empty (written a) (written b) p q xs e first.ok) second.ok;
    err = tt;
    stays = second.stays ∙ first.stays;
    rises = tt;
    counted = omega (arith, first.counted, second.counted);
  }
  on_flush v (Err x) p q xs e first second = record {
    ok = tt;
    err = prefix_flushed (written a) (written b) (written c) q xs (passes_from_empty (written a) (written b) p q xs e first.ok) second.err;
    stays = tt;
    rises = second.rises ∙ ap one_more first.stays;
    counted = omega (arith, first.counted, second.counted);
  }

module _ {K T U E F : Type 0} (written : K → Option (List ℕ)) (faults : K → ℕ) (a b : K) where
  -- a writer that failed before the bytes of another one
  pub on_cut : (e : E) (f : F) (p q s xs ys all : List ℕ) → PrintsOn {T = T} {E = E} written faults a b p q (Err e) xs → xs ++ ys ≡ all
      → PrintsOn {T = U} {E = F} written faults a b p s (Err f) all
  on_cut e f p q s xs ys all h whole = record {
    ok = tt;
    err = prefix_all (written a) (written b) p xs ys all whole h.err;
    stays = tt;
    rises = h.rises;
    counted = h.counted;
  }

module _ {K T E : Type 0} (written : K → Option (List ℕ)) (faults : K → ℕ) (a b : K) where
  -- the same bytes, told otherwise
  pub on_same : (r : Result T E) (p q xs ys : List ℕ) → xs ≡ ys → PrintsOn written faults a b p q r xs → PrintsOn written faults a b p q r ys
  on_same r p q xs ys e h = subst (λ (t : List ℕ). PrintsOn written faults a b p q r t) e h
