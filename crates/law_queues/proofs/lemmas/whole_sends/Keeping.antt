-- The steps of a driver keep what is sent whole, and in turn.
use Rattle.std.proofs.Common.{◌≡◌, ◌≢◌, ℕ, ◌==◌, ◌&&◌, not, Bool, true, false, if◌then◌else◌, List, [], ◌∷◌, ◌++◌, Some, ap, refl, sym, subst, ◌∙◌, ⊎_elim, inl, inr, arith}
use Rattle.std.specs.Prelude.{◌⊎◌}
use Rattle.std.proofs.lemmas.Bool.{cases_eq, true≢false}
use Rattle.law_ring.proofs.Common.{link_there, no_element, fewer_some}
use Rattle.law_queues.proofs.Common.{lower}
use Rattle.link_words.specs.declared.fields.ShortLink.{ShortLink}
use Rattle.link_words.specs.declared.kinds.QtdLink.TheVariants as qtd_links
use Rattle.link_words.specs.Links.{qtd_link_of}
use Rattle.qh_qtd.specs.declared.qtd.Qtd.{Qtd}
use Rattle.qh_qtd.specs.declared.token.Token.{Token}
use Rattle.qh_qtd.specs.declared.queue_head.Qh.{Qh}
use Rattle.hc_copy.specs.Visits.{next_pointer}
use Rattle.law_structures.specs.lent_structures.Structures.{Structure, QueueHead, Element, Structures, StructureSets, put}
use Rattle.law_structures.proofs.lemmas.lent_structures.Names.{put_same, put_found}
use Rattle.law_structures.specs.lent_structures.Sound.{IsElement, IsWorking, IsSoundQueue, IsMember}
use Rattle.law_structures.proofs.lemmas.lent_structures.Altering.{found_queue, found_element}
use Rattle.law_ring.specs.Hand.{Copy, copied_queue, Hand, Empty, Copied, Settled, Stale}
use Rattle.law_ring.specs.Fewer.{fewer_structures, without_those}
use Rattle.law_ring.specs.Order.{IsAmong}
use Rattle.law_ring.specs.Front.{IsBehind, SameRest, HadRest}
use Rattle.law_queues.specs.whole_sends.Whole.{EndsWhole, IsFirst, GoesInTurn, AreSentWhole}
use Rattle.law_queues.specs.whole_sends.Laws.{LinkedEndsWhole, StaleEndsWhole, StrangerEndsWhole, SparedIsWhole, ReturnedIsWhole, RenumberedIsWhole, IsNewBehind, AddedIsWhole, IdleStoreIsWhole, LastStoreIsWhole, BeginningIsWhole}

-- ---- what is in hand

pub linked_ends_whole : LinkedEndsWhole
linked_ends_whole at l Empty n k = k
linked_ends_whole at l _ n k = k

stale_by : (at : ℕ) (c : Copy) (n : ℕ) (b : Bool) → EndsWhole (if b then Stale at (copied_queue c) else Copied c) n
stale_by at c n true = tt
stale_by at c n false = tt

pub stale_ends_whole : StaleEndsWhole
stale_ends_whole at (Copied c) n k = stale_by at c n (c.at == at)
stale_ends_whole at _ n k = k

pub stranger_ends_whole : StrangerEndsWhole
stranger_ends_whole member parts reply (Settled c z) n in_hand off =
    λ at over goes. absurd (true≢false (sym in_hand.0.on ∙ ap member at ∙ off))
stranger_ends_whole member parts reply _ n in_hand off = tt

-- ---- an overlay as it was

pointer_same : (q r : Qh) → SameRest q r → next_pointer r ≡ next_pointer q
pointer_same q r same =
    ap (λ (t : Token). if not (t.total == 0) && not r.alternate.t then r.alternate else r.next) same.token
    ∙ ap (λ (l : ShortLink). if not (q.token.total == 0) && not l.t then l else r.next) same.alternate
    ∙ ap (λ (l : ShortLink). if not (q.token.total == 0) && not q.alternate.t then q.alternate else l) same.next

turn_same : (order : ℕ → ℕ) (part now : Structures) (q r : Qh) → SameRest q r → ((b : ℕ) → (q.token.active ≡ true → b ≡ q.current → IsFirst order part b → IsFirst order now b) × (q.token.halted ≡ false → q.token.active ≡ false → qtd_link_of (next_pointer q) ≡ qtd_links.To b → IsFirst order part b → IsFirst order now b))
    → GoesInTurn order part q → GoesInTurn order now r
turn_same order part now q r same first k = record {
  work = λ on.
      let active : q.token.active ≡ true = ap (λ (t : Token). t.active) (sym same.token) ∙ on in
      subst (IsFirst order now) (sym same.current) ((first q.current).0 active refl (k.work active));
  rest = λ b goes idle to.
      let goes_before : q.token.halted ≡ false = ap (λ (t : Token). t.halted) (sym same.token) ∙ goes in
      let rests : q.token.active ≡ false = ap (λ (t : Token). t.active) (sym same.token) ∙ idle in
      let leads : qtd_link_of (next_pointer q) ≡ qtd_links.To b = ap qtd_link_of (sym (pointer_same q r same)) ∙ to in
      (first b).1 goes_before rests leads (k.rest b goes_before rests leads);
}

pub spared_is_whole : SparedIsWhole
spared_is_whole order out out_now hand later n part now hands fewer head was k = record {
  whole = λ a t here off goes. k.whole a t (was a t here) off goes;
  ends = hands k.ends;
  goes_on = λ r a t at goes here off.
      let had = head r at in
      k.goes_on had.queue a t had.here (ap (λ (x : Token). x.halted) (sym had.rest.token) ∙ goes) (was a t here) off;
  before = λ a b t u among one other less off. k.before a b t u (fewer b among) (was a t one) (was b u other) less off;
  turn = λ r at.
      let had = head r at in
      turn_same order part now had.queue r had.rest (λ b. (λ on is first a t here active. first a t (was a t here) active, λ goes idle to first a t here active. first a t (was a t here) active)) (k.turn had.queue had.here);
  next = λ c a b t u one other on active less to. k.next c a b t u (was c t one) (was a u other) on active less to;
}

itself : (part : Structures) (n : ℕ) (r : Qh) → part n ≡ Some (QueueHead r) → HadRest part n r
itself part n r here = record { queue = r; here = here; rest = record { token = refl; current = refl; next = refl; alternate = refl } }

found_stays : (parts : StructureSets) (k : ℕ) (goes : ℕ → Bool) (n a : ℕ) (s : Structure) → without_those parts k goes n a ≡ Some s → parts n a ≡ Some s
found_stays parts k goes n a s found = by (n == k) found
  where
    by : (b : Bool) → (if b then fewer_structures goes (parts n) else parts n) a ≡ Some s → parts n a ≡ Some s
    by true there = (fewer_some goes (parts n) a s there).1
    by false there = there

pub returned_is_whole : ReturnedIsWhole
returned_is_whole order out out_now hand n parts k goes fewer old =
    spared_is_whole order out out_now hand hand n (parts n) (without_those parts k goes n) (λ ends_so. ends_so) fewer
    (λ r here. itself (parts n) n r (found_stays parts k goes n n (QueueHead r) here)) (λ a t here. found_stays parts k goes n a (Element t) here) old

-- ---- orders

sound_head : (member : ℕ → Bool) (n : ℕ) (part : Structures) (q : Qh) → IsMember member n part → part n ≡ Some (QueueHead q) → IsSoundQueue part q
sound_head member n part q m here = subst (IsSoundQueue part) (found_queue (part n) m.queue q m.here here) m.sound

pub renumbered_is_whole : RenumberedIsWhole
renumbered_is_whole member order order_now out hand n part m same k = record {
  whole = k.whole;
  ends = k.ends;
  goes_on = k.goes_on;
  before = λ a b t u among one other less off.
      let first = same a t one in
      let second = same b u other in
      k.before a b t u among one other (omega (arith, first, second, less)) off;
  turn = λ q at.
      let sound : IsSoundQueue part q = sound_head member n part q m at in
      record {
        work = λ on a t here active.
            let w : IsWorking part q = sound.work on in
            let first = same q.current w.element w.here in
            let second = same a t here in
            let from = (k.turn q at).work on a t here active in
            omega (arith, first, second, from);
        rest = λ b goes idle to a t here active.
            let there : IsElement part b = link_there part (qtd_link_of (next_pointer q)) b (sound.rest goes idle) to in
            let first = same b there.qtd there.here in
            let second = same a t here in
            let from = (k.turn q at).rest b goes idle to a t here active in
            omega (arith, first, second, from);
      };
  next = λ c a b t u one other on active less to.
      let there : IsElement part b = link_there part (qtd_link_of t.next) b (m.elements c t one).next to in
      let first = same c t one in
      let second = same a u other in
      let third = same b there.qtd there.here in
      let at = k.next c a b t u one other on active (omega (arith, first, second, less)) to in
      omega (arith, second, third, at);
}

-- ---- new qTDs behind all others

pub added_is_whole : AddedIsWhole
added_is_whole member order out out_now hand n part now m fewer head each k = record {
  whole = λ a t here off goes. ⊎_elim (λ (was : part a ≡ Some (Element t)). k.whole a t was off goes) (λ (new : IsNewBehind order out_now part now a t). (new.idle off).1) (each a t here);
  ends = k.ends;
  goes_on = λ r a t at goes here off.
      let had = head r at in
      ⊎_elim (λ (was : part a ≡ Some (Element t)). k.goes_on had.queue a t had.here (ap (λ (x : Token). x.halted) (sym had.rest.token) ∙ goes) was off)
      (λ (new : IsNewBehind order out_now part now a t). (new.idle off).0) (each a t here);
  before = λ a b t u among one other less off.
      ⊎_elim (λ (was_b : part b ≡ Some (Element u)).
      ⊎_elim (λ (was_a : part a ≡ Some (Element t)). k.before a b t u (fewer b u among was_b) was_a was_b less off)
      (λ (new : IsNewBehind order out_now part now a t). absurd (let from = new.behind b u was_b in omega (arith, from, less))) (each a t one))
      (λ (new : IsNewBehind order out_now part now b u). absurd (true≢false (sym (new.published among) ∙ off))) (each b u other);
  turn = λ r at.
      let had = head r at in
      let sound : IsSoundQueue part had.queue = sound_head member n part had.queue m had.here in
      turn_same order part now had.queue r had.rest (λ b. (
        λ on is first.
            let w : IsWorking part had.queue = sound.work on in
            first_then b w.element (ap part is ∙ w.here) first,
        λ goes idle to first.
            let there : IsElement part b = link_there part (qtd_link_of (next_pointer had.queue)) b (sound.rest goes idle) to in
            first_then b there.qtd there.here first,
      )) (k.turn had.queue had.here);
  next = λ c a b t u one other on active less to.
      ⊎_elim (λ (was_c : part c ≡ Some (Element t)).
      ⊎_elim (λ (was_a : part a ≡ Some (Element u)). k.next c a b t u was_c was_a on active less to)
      (λ (new : IsNewBehind order out_now part now a u).
      let there : IsElement part b = link_there part (qtd_link_of t.next) b (m.elements c t was_c).next to in
      new.behind b there.qtd there.here) (each a u other))
      (λ (new : IsNewBehind order out_now part now c t). new.next b a u on to other active less) (each c t one);
}
  where
    first_then : (b : ℕ) (v : Qtd) → part b ≡ Some (Element v) → IsFirst order part b → IsFirst order now b
    first_then b v there first a t here active = ⊎_elim (λ (was : part a ≡ Some (Element t)). first a t was active) (λ (new : IsNewBehind order out_now part now a t). new.behind b v there) (each a t here)

-- ---- a qTD is stored over one that isn't active

head_was : (parts : StructureSets) (n e : ℕ) (new : Qtd) (q : Qh) → put parts n e (Element new) n n ≡ Some (QueueHead q) → parts n n ≡ Some (QueueHead q)
head_was parts n e new q found =
    ⊎_elim (λ (is : (n ≡ n) × (n ≡ e) × (QueueHead q ≡ Element new)). absurd (no_element q new is.2)) (λ (there : parts n n ≡ Some (QueueHead q)). there) (put_found parts n e (Element new) n n (QueueHead q) found)

stored_is : (parts : StructureSets) (n e a : ℕ) (new t : Qtd) → a ≡ e → put parts n e (Element new) n a ≡ Some (Element t) → t ≡ new
stored_is parts n e a new t same found = found_element (put parts n e (Element new) n e) t new (ap (put parts n e (Element new) n) (sym same) ∙ found) (put_same parts n e (Element new))

stored_was : (parts : StructureSets) (n e a : ℕ) (new t : Qtd) → a ≢ e → put parts n e (Element new) n a ≡ Some (Element t) → parts n a ≡ Some (Element t)
stored_was parts n e a new t differs found =
    ⊎_elim (λ (is : (n ≡ n) × (a ≡ e) × (Element t ≡ Element new)). absurd (differs is.1)) (λ (there : parts n a ≡ Some (Element t)). there) (put_found parts n e (Element new) n a (Element t) found)

module _ (order : ℕ → ℕ) (hand : Hand) (n : ℕ) (parts : StructureSets) (e : ℕ) (old new : Qtd) (here : parts n e ≡ Some (Element old)) (idle : old.token.active ≡ false) where
  abbrev now : Structures
  now = put parts n e (Element new) n

  -- where it isn't active then
  module _ (off : new.token.active ≡ false) (goes : new.token.halted ≡ false) (none : new.token.total ≡ 0) (out : List ℕ) (k : AreSentWhole order out hand n (parts n)) where
    active_was : (a : ℕ) (t : Qtd) → now a ≡ Some (Element t) → t.token.active ≡ true → parts n a ≡ Some (Element t)
    active_was a t found on =
        ⊎_elim (λ (same : a ≡ e). absurd (true≢false (sym on ∙ ap (λ (x : Qtd). x.token.active) (stored_is parts n e a new t same found) ∙ off)))
        (λ (differs : a ≢ e). stored_was parts n e a new t differs found) (cases_eq a e)

    idle_whole : AreSentWhole order out hand n now
    idle_whole = record {
      whole = λ a t found over goes_now.
          ⊎_elim (λ (same : a ≡ e). ap (λ (x : Qtd). x.token.total) (stored_is parts n e a new t same found) ∙ none)
          (λ (differs : a ≢ e). k.whole a t (stored_was parts n e a new t differs found) over goes_now) (cases_eq a e);
      ends = k.ends;
      goes_on = λ q a t at goes_now found over.
          ⊎_elim (λ (same : a ≡ e). ap (λ (x : Qtd). x.token.halted) (stored_is parts n e a new t same found) ∙ goes)
          (λ (differs : a ≢ e). k.goes_on q a t (head_was parts n e new q at) goes_now (stored_was parts n e a new t differs found) over) (cases_eq a e);
      before = λ a b t u among one other less over.
          ⊎_elim (λ (same : a ≡ e). let is : t ≡ new = stored_is parts n e a new t same one in (ap (λ (x : Qtd). x.token.active) is ∙ off, ap (λ (x : Qtd). x.token.halted) is ∙ goes))
          (λ (differs : a ≢ e).
          let was_a : parts n a ≡ Some (Element t) = stored_was parts n e a new t differs one in
          ⊎_elim (λ (same : b ≡ e). k.before a b t old among was_a (ap (parts n) same ∙ here) less idle)
          (λ (too : b ≢ e). k.before a b t u among was_a (stored_was parts n e b new u too other) less over) (cases_eq b e)) (cases_eq a e);
      turn = λ q at.
          let turned = k.turn q (head_was parts n e new q at) in
          record {
            work = λ on a t found active. turned.work on a t (active_was a t found active) active;
            rest = λ b goes_now rests to a t found active. turned.rest b goes_now rests to a t (active_was a t found active) active;
          };
      next = λ c a b t u one other on active less to. k.next c a b t u (active_was c t one on) (active_was a u other active) on active less to;
    }

pub idle_store_is_whole : IdleStoreIsWhole
idle_store_is_whole order out hand n parts e old new here idle off goes none k = idle_whole order hand n parts e old new here idle off goes none out k

among_split : (e : ℕ) (a : ℕ) (ahead behind : List ℕ) → IsAmong a (ahead ++ behind) → IsAmong a ahead ⊎ IsAmong a behind
among_split e a [] behind among = inr among
among_split e a (d ∷ ds) behind (inl same) = inl (inl same)
among_split e a (d ∷ ds) behind (inr among) = ⊎_elim (λ (one : IsAmong a ds). inl (inr one)) (λ (other : IsAmong a behind). inr other) (among_split e a ds behind among)

among_but : (e b : ℕ) (ahead behind : List ℕ) → b ≢ e → IsAmong b (ahead ++ e ∷ behind) → IsAmong b (ahead ++ behind)
among_but e b [] behind differs (inl same) = absurd (differs same)
among_but e b [] behind differs (inr among) = among
among_but e b (d ∷ ds) behind differs (inl same) = inl same
among_but e b (d ∷ ds) behind differs (inr among) = inr (among_but e b ds behind differs among)

pub last_store_is_whole : LastStoreIsWhole
last_store_is_whole order front ahead behind hand n parts e old new here idle on sorted fronts within tail complete leads k = record {
  whole = λ a t found over goes_now. k.whole a t (idle_was a t found over) over goes_now;
  ends = k.ends;
  goes_on = λ q a t at goes_now found over. k.goes_on q a t (head_was parts n e new q at) goes_now (idle_was a t found over) over;
  before = λ a b t u among one other less over.
      let differs : b ≢ e = not_stored b u other over in
      let was_b : parts n b ≡ Some (Element u) = stored_was parts n e b new u differs other in
      let out : IsAmong b (ahead ++ behind) = among_but e b ahead behind differs among in
      ⊎_elim (λ (same : a ≡ e).
      let done : IsBehind order front (parts n) b = fronts.behind b u out was_b over in
      absurd (let passed = done.before in let most = tail.most in let at = ap order same in omega (arith, passed, most, at, less)))
      (λ (too : a ≢ e). k.before a b t u out (stored_was parts n e a new t too one) was_b less over) (cases_eq a e);
  turn = λ q at.
      let was : parts n n ≡ Some (QueueHead q) = head_was parts n e new q at in
      let turned : GoesInTurn order (parts n) q = k.turn q was in
      record {
        work = λ active a t found too.
            ⊎_elim (λ (same : a ≡ e). let most = tail.most in let first = (fronts.queue q was).work active in let i = ap order same in omega (arith, most, first, i))
            (λ (differs : a ≢ e). turned.work active a t (stored_was parts n e a new t differs found) too) (cases_eq a e);
        rest = λ b goes rests to a t found too.
            ⊎_elim (λ (same : a ≡ e). let most = tail.rest q b was goes rests to in let i = ap order same in omega (arith, most, i))
            (λ (differs : a ≢ e). turned.rest b goes rests to a t (stored_was parts n e a new t differs found) too) (cases_eq a e);
      };
  next = λ c a b t u one other active too less to.
      ⊎_elim (λ (same : c ≡ e).
      let at = ap order same in
      let differs : a ≢ e = λ is. let i = ap order is in omega (arith, i, at, less) in
      let out : IsAmong a (ahead ++ behind) = complete a u (stored_was parts n e a new u differs other) too in
      ⊎_elim (λ (low : IsAmong a ahead). absurd (let below = lower order e a ahead behind sorted low in omega (arith, below, at, less)))
      (λ (high : IsAmong a behind). leads a b (ap (λ (x : Qtd). qtd_link_of x.next) (sym (stored_is parts n e c new t same one)) ∙ to) high) (among_split e a ahead behind out))
      (λ (differs : c ≢ e).
      let was_c : parts n c ≡ Some (Element t) = stored_was parts n e c new t differs one in
      ⊎_elim (λ (same : a ≡ e).
      let at = ap order same in
      let most = within.next c b t was_c active (omega (arith, at, less)) to in
      omega (arith, most, at))
      (λ (also : a ≢ e). k.next c a b t u was_c (stored_was parts n e a new u also other) active too less to) (cases_eq a e)) (cases_eq c e);
}
  where
    not_stored : (a : ℕ) (t : Qtd) → put parts n e (Element new) n a ≡ Some (Element t) → t.token.active ≡ false → a ≢ e
    not_stored a t found over same = true≢false (sym on ∙ ap (λ (x : Qtd). x.token.active) (sym (stored_is parts n e a new t same found)) ∙ over)

    idle_was : (a : ℕ) (t : Qtd) → put parts n e (Element new) n a ≡ Some (Element t) → t.token.active ≡ false → parts n a ≡ Some (Element t)
    idle_was a t found over = stored_was parts n e a new t (not_stored a t found over) found

-- ---- a queue head begins

pub beginning_is_whole : BeginningIsWhole
beginning_is_whole order hand n part ends_so rests each = record {
  whole = λ a t here off goes. (each a t here).2;
  ends = ends_so;
  goes_on = λ q a t at goes here off. (each a t here).1;
  before = λ a b t u among one other less off. absurd among;
  turn = λ q at. record {
    work = λ on. absurd (true≢false (sym on ∙ rests q at));
    rest = λ b goes idle to a t here on. absurd (true≢false (sym on ∙ (each a t here).0));
  };
  next = λ c a b t u one other on active less to. absurd (true≢false (sym on ∙ (each c t one).0));
}
