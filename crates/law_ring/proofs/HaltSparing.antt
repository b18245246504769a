-- What a halt gives, and a driver's rows.
use Rattle.std.proofs.Common.{◌≡◌, ◌≢◌, ℕ, ◌-◌, ◌<◌, ◌&&◌, ◌==◌, Bool, true, false, if◌then◌else◌, List, [], ◌++◌, length, take, Some, ap, refl, sym, subst, ◌∙◌, ⊎_elim, inl, inr, arith}
use Rattle.std.proofs.lemmas.Bool.{true≢false}
use Rattle.law_ring.proofs.Common.{among_either, no_element, fewer_some}
use Rattle.qh_qtd.specs.declared.qtd.Qtd.{Qtd}
use Rattle.qh_qtd.specs.declared.queue_head.Qh.{Qh}
use Rattle.qh_qtd.specs.declared.token.Token.{Token}
use Rattle.law_structures.specs.lent_structures.Structures.{QueueHead, Element, Structures, put}
use Rattle.law_structures.proofs.lemmas.lent_structures.Names.{put_same, put_found}
use Rattle.law_structures.proofs.lemmas.lent_structures.Altering.{found_queue, found_element}
use Rattle.law_structures.specs.lent_structures.Sound.{IsSoundQueue}
use Rattle.law_ring.specs.Hand.{Hand, Settled}
use Rattle.law_ring.specs.Effects.{buffer_of}
use Rattle.law_ring.specs.Told.{works_on, told_bytes, settled_bytes, hand_bytes}
use Rattle.law_ring.specs.Order.{IsAmong}
use Rattle.law_ring.specs.Halted.{NoneBehindIsMoved, OneIsHalted, IsKeptOrPublished, HaltIsSpared, HaltIsRenumbered, StoreKeepsHalts, LendKeepsHalts, ReleaseKeepsHalts, FewerKeepHalts}

-- ---- what it gives

pub one_is_halted : OneIsHalted
one_is_halted order out n a b part t u k among here is also there is_too = by_order
  where
    not_before : order a < order b → ⊥
    not_before less = true≢false (sym (k.later a b t u among here is also less there) ∙ is_too.done)

    not_after : order b < order a → ⊥
    not_after less = true≢false (sym (k.later b a u t also there is_too among less here) ∙ is.done)

    by_order : order a ≡ order b
    by_order = omega (arith, not_before, not_after)

none_left : (bs : List ℕ) → take (length bs - length bs) bs ≡ []
none_left bs = let e : length bs - length bs ≡ 0 = omega arith in ap (λ k. take k bs) e

idle_bytes : (hand : Hand) (n : ℕ) (q : Qh) (e : ℕ) (t : Qtd) (bs : List ℕ) → q.token.active ≡ false → t.token.total ≡ length bs → hand_bytes hand n q e t bs ≡ []
idle_bytes hand n q e t bs idle fresh = by_hand hand
  where
    off : works_on q e ≡ false
    off = ap (λ (b : Bool). b && q.current == e) idle

    told : told_bytes q e t bs ≡ []
    told = ap (λ (b : Bool). take (length bs - (if b then q.token.total else t.token.total)) bs) off ∙ ap (λ k. take (length bs - k) bs) fresh ∙ none_left bs

    and_off : (b c : Bool) → c ≡ false → (b && c) ≡ false
    and_off true c is = is
    and_off false c is = refl

    by_hand : (h : Hand) → hand_bytes h n q e t bs ≡ []
    by_hand (Settled c z) = ap (λ (b : Bool). if b then settled_bytes q t z bs else told_bytes q e t bs) (and_off (c.at == n) (works_on q e) off) ∙ told
    by_hand _ = told

halted_idle : (q : Qh) (b : Bool) → q.token.active ≡ b → q.token.halted ≡ true → (q.token.active ≡ true → q.token.halted ≡ false) → q.token.active ≡ false
halted_idle q true on halted works = absurd (true≢false (sym halted ∙ works on))
halted_idle q false off halted works = off

pub none_behind_is_moved : NoneBehindIsMoved
none_behind_is_moved member order front out hand parts n a e t xs m k stops among here is also less told =
    let halted : told.queue.token.halted ≡ true = stops.head a t told.queue among here is told.head in
    let sound : IsSoundQueue (parts n) told.queue = subst (IsSoundQueue (parts n)) (found_queue (parts n n) m.queue told.queue m.here told.head) m.sound in
    let idle : told.queue.token.active ≡ false = halted_idle told.queue told.queue.token.active refl halted (λ on. (sound.work on).goes_on) in
    let on : told.qtd.token.active ≡ true = stops.later a e t told.qtd among here is also less told.here in
    told.are ∙ idle_bytes hand n told.queue e told.qtd (buffer_of (parts n) told.qtd) idle (k.fresh e told.qtd also told.here on)

-- ---- a driver's rows

kept_or : (P : Type 0) (out : List ℕ) (part : Structures) (a : ℕ) (t : Qtd) → IsKeptOrPublished out part a t → (IsAmong a out → part a ≡ Some (Element t) → P) → (t.token.active ≡ true → P) → P
kept_or P out part a t (inl was) old new = old was.0 was.1
kept_or P out part a t (inr on) old new = new on

pub halt_is_spared : HaltIsSpared
halt_is_spared order out out_now n part now rest spared k = record {
  head = λ a t q among here is head.
      let had = rest q head in
      kept_or (q.token.halted ≡ true) out part a t (spared a t among here)
      (λ was there. ap (λ (x : Token). x.halted) had.rest.token ∙ k.head a t had.queue was there is had.here) (λ on. absurd (true≢false (sym on ∙ is.done)));
  later = λ a e t u among here is also less there.
      kept_or (u.token.active ≡ true) out part e u (spared e u also there)
      (λ was_e there_e.
      kept_or (u.token.active ≡ true) out part a t (spared a t among here) (λ was_a there_a. k.later a e t u was_a there_a is was_e less there_e)
      (λ on. absurd (true≢false (sym on ∙ is.done))))
      (λ on. on);
}

pub halt_is_renumbered : HaltIsRenumbered
halt_is_renumbered order order_now out n part same k = record {
  head = k.head;
  later = λ a e t u among here is also less there.
      let first = same a t among here in let second = same e u also there in k.later a e t u among here is also (omega (arith, less, first, second)) there;
}

-- a qTD is stored

pub store_keeps_halts : StoreKeepsHalts
store_keeps_halts order out out_now n e parts new beside k =
    halt_is_spared order out out_now n (parts n) (put parts n e (Element new) n)
    (λ r here. record {
      queue = r;
      here = ⊎_elim (λ (is : (n ≡ n) × (n ≡ e) × (QueueHead r ≡ Element new)). absurd (no_element r new is.2)) (λ (was : parts n n ≡ Some (QueueHead r)). was) (put_found parts n e (Element new) n n (QueueHead r) here);
      rest = record { token = refl; current = refl; next = refl; alternate = refl };
    })
    (λ a t among here.
    ⊎_elim
    (λ (was : IsAmong a out × (a ≢ e)).
    ⊎_elim (λ (is : (n ≡ n) × (a ≡ e) × (Element t ≡ Element new)). absurd (was.1 is.1)) (λ (there : parts n a ≡ Some (Element t)). inl (was.0, there)) (put_found parts n e (Element new) n a (Element t) here))
    (λ (is : (a ≡ e) × (new.token.active ≡ true)).
    let same : t ≡ new = found_element (put parts n e (Element new) n e) t new (ap (put parts n e (Element new) n) (sym is.0) ∙ here) (put_same parts n e (Element new)) in
    inr (ap (λ (u : Qtd). u.token.active) same ∙ is.1))
    (beside a among))
    k

pub lend_keeps_halts : LendKeepsHalts
lend_keeps_halts order order_now out new n part now rest same old published k =
    halt_is_spared order_now out (out ++ new) n part now rest
    (λ a t among here. ⊎_elim (λ (was : IsAmong a out). inl (was, old a t was here)) (λ (more : IsAmong a new). inr (published a t more here)) (among_either a out new among))
    (halt_is_renumbered order order_now out n part same k)

pub release_keeps_halts : ReleaseKeepsHalts
release_keeps_halts order out out_now n part goes few k = record {
  head = λ a t q among here is head. k.head a t q (few a among) (fewer_some goes part a (Element t) here).1 is (fewer_some goes part n (QueueHead q) head).1;
  later = λ a e t u among here is also less there.
      k.later a e t u (few a among) (fewer_some goes part a (Element t) here).1 is (few e also) less (fewer_some goes part e (Element u) there).1;
}

pub fewer_keep_halts : FewerKeepHalts
fewer_keep_halts order out out_now n part few k = record {
  head = λ a t q among here is head. k.head a t q (few a among) here is head;
  later = λ a e t u among here is also less there. k.later a e t u (few a among) here is (few e also) less there;
}
