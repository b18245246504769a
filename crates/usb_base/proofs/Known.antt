-- Known bytes that grow twice, and what writers to a sink that are called one after the other print together.
use Rattle.std.proofs.Common.{◌≡◌, ◌<◌, ◌≤◌, ◌+◌, ℕ, List, ◌++◌, length, take, min, Option, Some, None, Result, Ok, Err, ap, sym, subst, ◌∙◌, append_assoc, inl, inr, ⊎_elim, arith}
use Rattle.std.proofs.lemmas.Bool.{cases_lt}
use Rattle.std.proofs.lemmas.List.{take-append-le, take_min}
use Rattle.std.proofs.Math.Seq.{take-append-add}
use Rattle.std.specs.Io.KnownBytes.{Appends}
use Rattle.usb_base.specs.Outside.{AppendsPrefix, Prints, Rose, last_count, one_more}

pub appends_join : (a b c : Option (List ℕ)) (xs ys : List ℕ) → Appends a b xs → Appends b c ys → Appends a c (xs ++ ys)
appends_join None b c xs ys h k = tt
appends_join (Some x) None c xs ys h k = absurd h
appends_join (Some x) (Some y) None xs ys h k = absurd k
appends_join (Some x) (Some y) (Some z) xs ys h k = k ∙ ap (λ v. v ++ ys) h ∙ append_assoc x xs ys

-- a front part of the bytes is one of more bytes
pub prefix_more : (a b : Option (List ℕ)) (xs ys : List ℕ) → AppendsPrefix a b xs → AppendsPrefix a b (xs ++ ys)
prefix_more a b xs ys h =
    let m = min h.0 (length xs) in
    let least : m ≤ length xs = omega arith in
    let same : take m (xs ++ ys) ≡ take h.0 xs = take-append-le m xs ys least ∙ take_min h.0 xs in
    (m, subst (Appends a b) (sym same) h.1)

-- bytes, and a front part of those that follow them
pub prefix_after : (a b c : Option (List ℕ)) (xs ys : List ℕ) → Appends a b xs → AppendsPrefix b c ys → AppendsPrefix a c (xs ++ ys)
prefix_after a b c xs ys first h =
    (length xs + h.0, subst (Appends a c) (sym (take-append-add xs ys h.0)) (appends_join a b c xs (take h.0 ys) first h.1))

-- one fault more
pub rose_by_one : (n : ℕ) → Rose n (one_more n)
rose_by_one n = ⊎_elim (λ (less : n < last_count). inl (omega arith)) (λ (full : last_count ≤ n). inr (omega arith)) (cases_lt n last_count)

module _ {K T U E F : Type 0} (written : K → Option (List ℕ)) (faults : K → ℕ) (a b c : K) where
  -- a writer that printed its bytes, and then another writer
  pub prints_join : (v : U) (r : Result T E) (xs ys : List ℕ) → Prints {T = U} {E = F} written faults a b (Ok v) xs → Prints written faults b c r ys
      → Prints written faults a c r (xs ++ ys)
  prints_join v (Ok x) xs ys first second = record {
    ok = appends_join (written a) (written b) (written c) xs ys first.ok second.ok;
    err = tt;
    stays = second.stays ∙ first.stays;
    rises = tt;
    counted = omega (arith, first.counted, second.counted);
  }
  prints_join v (Err e) xs ys first second = record {
    ok = tt;
    err = prefix_after (written a) (written b) (written c) xs ys first.ok second.err;
    stays = tt;
    rises = second.rises ∙ ap one_more first.stays;
    counted = omega (arith, first.counted, second.counted);
  }

module _ {K T U E F : Type 0} (written : K → Option (List ℕ)) (faults : K → ℕ) (a b : K) where
  -- a writer that failed before the bytes of another one
  pub prints_cut : (e : E) (f : F) (xs ys : List ℕ) → Prints {T = T} {E = E} written faults a b (Err e) xs
      → Prints {T = U} {E = F} written faults a b (Err f) (xs ++ ys)
  prints_cut e f xs ys h = record {
    ok = tt;
    err = prefix_more (written a) (written b) xs ys h.err;
    stays = tt;
    rises = h.rises;
    counted = h.counted;
  }

module _ {K T E : Type 0} (written : K → Option (List ℕ)) (faults : K → ℕ) (a b : K) where
  -- the same bytes, told otherwise
  pub prints_same : (r : Result T E) (xs ys : List ℕ) → xs ≡ ys → Prints written faults a b r xs → Prints written faults a b r ys
  prints_same r xs ys e h = subst (λ (t : List ℕ). Prints written faults a b r t) e h
