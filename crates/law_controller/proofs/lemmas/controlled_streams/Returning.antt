-- What stays is told as before.
use Rattle.std.proofs.Common.{◌≡◌, ◌≢◌, ℕ, ◌-◌, ◌<◌, Bool, true, false, if◌then◌else◌, List, [], ◌∷◌, ◌++◌, length, take, Option, Some, ap, refl, sym, subst, ◌∙◌, ⊎_elim, inl, inr, arith}
use Rattle.std.proofs.lemmas.Bool.{cases_eq, true≢false, eq-eqb}
use Rattle.law_controller.proofs.Common.{no_bytes}
use Rattle.law_common.proofs.Numbers.{other_number}
use Rattle.qh_qtd.specs.declared.qtd.Qtd.{Qtd}
use Rattle.qh_qtd.specs.declared.queue_head.Qh.{Qh}
use Rattle.law_structures.specs.lent_structures.Structures.{QueueHead, Element, Buffer, Structures, StructureSets}
use Rattle.law_structures.specs.lent_structures.Sound.{buffer_name}
use Rattle.law_ring.specs.Hand.{Hand}
use Rattle.law_ring.specs.Effects.{bytes_in, buffer_of}
use Rattle.law_ring.specs.Told.{Told}
use Rattle.law_ring.specs.Order.{IsOrdered, IsFresh, AreAfter, IsSorted, IsAmong, AllTold, none_out, one_out, Accounts}
use Rattle.law_ring.proofs.Ordering.{not_worked, works_by}
use Rattle.law_ring.specs.Bus.{Sender}
use Rattle.law_ring.specs.Pipes.{IsNotIn}
use Rattle.law_ring.specs.Fewer.{without_those}
use Rattle.law_ring.proofs.Returning.{those_found, those_stay, those_else, those_beside}
use Rattle.law_ring.specs.Front.{HasFront}
use Rattle.law_ring.specs.Sparing.{SparesHead, SparesElement}
use Rattle.law_ring.proofs.SparedSparing.{spared_is_told, spared_has_toggle, spared_endpoint, accounts_are_spared}
use Rattle.law_controller.specs.controlled_streams.Returned.{staying, KeepsBuffers, GoUntold, AccountsAreReturned, ReportedAreReturned, PipesAreReturned, FrontIsReturned, PassedHasNone}

-- ---- which stay

stays_by : (goes : ℕ → Bool) (c : Bool) (b e : ℕ) (bs : List ℕ) → goes b ≡ c → (IsAmong e (staying goes bs) → IsAmong e bs × (goes e ≡ false)) → IsAmong e (if c then staying goes bs else b ∷ staying goes bs) → IsAmong e (b ∷ bs) × (goes e ≡ false)
stays_by goes true b e bs is rest there = let r = rest there in (inr r.0, r.1)
stays_by goes false b e bs is rest (inl same) = (inl same, ap goes same ∙ is)
stays_by goes false b e bs is rest (inr there) = let r = rest there in (inr r.0, r.1)

pub stays_among : (goes : ℕ → Bool) (out : List ℕ) (e : ℕ) → IsAmong e (staying goes out) → IsAmong e out × (goes e ≡ false)
stays_among goes [] e among = absurd among
stays_among goes (b ∷ bs) e among = stays_by goes (goes b) b e bs refl (stays_among goes bs e) among

among_by : (goes : ℕ → Bool) (c : Bool) (b e : ℕ) (bs : List ℕ) → goes b ≡ c → goes e ≡ false → (IsAmong e bs → IsAmong e (staying goes bs)) → IsAmong e (b ∷ bs) → IsAmong e (if c then staying goes bs else b ∷ staying goes bs)
among_by goes true b e bs is off rest (inl same) = absurd (true≢false (sym is ∙ ap goes (sym same) ∙ off))
among_by goes true b e bs is off rest (inr there) = rest there
among_by goes false b e bs is off rest (inl same) = inl same
among_by goes false b e bs is off rest (inr there) = inr (rest there)

pub among_stays : (goes : ℕ → Bool) (out : List ℕ) (e : ℕ) → goes e ≡ false → IsAmong e out → IsAmong e (staying goes out)
among_stays goes [] e off among = among
among_stays goes (b ∷ bs) e off among = among_by goes (goes b) b e bs refl off (among_stays goes bs e off) among

after_by : (order : ℕ → ℕ) (e : ℕ) (c : Bool) (b : ℕ) (rest : List ℕ) → order e < order b → AreAfter order e rest → AreAfter order e (if c then rest else b ∷ rest)
after_by order e true b rest less after = after
after_by order e false b rest less after = (less, after)

after_stays : (order : ℕ → ℕ) (goes : ℕ → Bool) (e : ℕ) (out : List ℕ) → AreAfter order e out → AreAfter order e (staying goes out)
after_stays order goes e [] after = tt
after_stays order goes e (b ∷ bs) after = after_by order e (goes b) b (staying goes bs) after.0 (after_stays order goes e bs after.1)

sorted_by : (order : ℕ → ℕ) (c : Bool) (b : ℕ) (rest : List ℕ) → AreAfter order b rest → IsSorted order rest → IsSorted order (if c then rest else b ∷ rest)
sorted_by order true b rest after sorted = sorted
sorted_by order false b rest after sorted = (after, sorted)

sorted_stays : (order : ℕ → ℕ) (goes : ℕ → Bool) (out : List ℕ) → IsSorted order out → IsSorted order (staying goes out)
sorted_stays order goes [] sorted = tt
sorted_stays order goes (b ∷ bs) sorted = sorted_by order (goes b) b (staying goes bs) (after_stays order goes b bs sorted.0) (sorted_stays order goes bs sorted.1)

-- ---- one queue head

module _ (parts : StructureSets) (n : ℕ) (goes : ℕ → Bool) (off : goes n ≡ false) where
  abbrev now : StructureSets
  now = without_those parts n goes

  head_stays : (k : ℕ) → now k k ≡ parts k k
  head_stays k =
      ⊎_elim (λ (same : k ≡ n). those_else parts n goes k k (ap goes same ∙ off)) (λ (differs : k ≢ n). ap (λ (part : Structures). part k) (those_beside parts n goes k differs)) (cases_eq k n)

  pub spares_head : (k : ℕ) → SparesHead parts now k
  spares_head k q here = record { queue = q; here = head_stays k ∙ here; overlay = record { token = refl; current = refl; offset = refl; endpoint = refl } }

  module _ (keep : KeepsBuffers goes (parts n)) where
    same_bytes : (a : ℕ) (t : Qtd) → parts n a ≡ Some (Element t) → goes a ≡ false → buffer_of (now n) t ≡ buffer_of (parts n) t
    same_bytes a t here stays = by_test (goes (buffer_name t)) refl
      where
        by_test : (b : Bool) → goes (buffer_name t) ≡ b → buffer_of (now n) t ≡ buffer_of (parts n) t
        by_test false is = ap bytes_in (those_else parts n goes n (buffer_name t) is)
        by_test true is =
            let none : (pages : List ℕ) (k : ℕ) (bs : List ℕ) → parts n (buffer_name t) ≡ Some (Buffer pages k bs) → ⊥ =
            λ pages k bs there. true≢false (sym is ∙ keep a t here stays (record { pages = pages; start = k; bytes = bs; here = there })) in
            no_bytes (now n (buffer_name t)) (λ pages k bs there. none pages k bs (those_found parts n goes n (buffer_name t) (Buffer pages k bs) there)) ∙ sym (no_bytes (parts n (buffer_name t)) none)

    pub spares_element : (a : ℕ) → goes a ≡ false → SparesElement parts now n a
    spares_element a stays = record {
      element = λ t here. those_else parts n goes n a stays ∙ here;
      bytes = λ t here. same_bytes a t here stays;
    }

    fresh_stays : (a : ℕ) (t : Qtd) → now n a ≡ Some (Element t) → IsFresh (parts n) t → IsFresh (now n) t
    fresh_stays a t found fresh = fresh ∙ sym (ap length (same_bytes a t (those_found parts n goes n a (Element t) found) (those_stay parts n goes a (Element t) found)))

    ordered_stays : (order : ℕ → ℕ) (place : ℕ) → IsOrdered order place n (parts n) → IsOrdered order place n (now n)
    ordered_stays order place k = record {
      next = λ a t b found leads. k.next a t b (those_found parts n goes n a (Element t) found) leads;
      alternate = λ a t b found leads. k.alternate a t b (those_found parts n goes n a (Element t) found) leads;
      queue = λ q found. k.queue q (those_found parts n goes n n (QueueHead q) found);
      fresh = λ a t found on from. fresh_stays a t found (k.fresh a t (those_found parts n goes n a (Element t) found) on from);
    }

    told_by : (hand : Hand) (c : Bool) (e : ℕ) (es x ys : List ℕ) → goes e ≡ c → (goes e ≡ true → x ≡ []) → Told hand parts n e x → AllTold hand now n (staying goes es) ys → AllTold hand now n (if c then staying goes es else e ∷ staying goes es) (x ++ ys)
    told_by hand true e es x ys on none first later = subst (λ (zs : List ℕ). AllTold hand now n (staying goes es) (zs ++ ys)) (sym (none on)) later
    told_by hand false e es x ys off_now none first later =
        one_out e (staying goes es) x ys (spared_is_told hand hand parts now n e x (record { bytes = λ m q b t bs. refl; toggle = λ m q. refl }) (spares_head n) (spares_element e off_now) first) later

    told_stays : (hand : Hand) (out xs : List ℕ) → GoUntold goes out hand parts n → AllTold hand parts n out xs → AllTold hand now n (staying goes out) xs
    told_stays hand out xs untold none_out = none_out
    told_stays hand out xs untold (one_out e es x ys first rest) =
        told_by hand (goes e) e es x ys refl (λ on. untold e x (inl refl) on first) first (told_stays hand es ys (λ b y among. untold b y (inr among)) rest)

    pub accounts_stay : (order : ℕ → ℕ) (place : ℕ) (out : List ℕ) (hand : Hand) (xs : List ℕ) → GoUntold goes out hand parts n → Accounts order place out hand parts n xs → Accounts order place (staying goes out) hand now n xs
    accounts_stay order place out hand xs untold k = record {
      ordered = ordered_stays order place k.ordered;
      sorted = sorted_stays order goes out k.sorted;
      published = λ a t among found from. k.published a t (stays_among goes out a among).0 (those_found parts n goes n a (Element t) found) from;
      complete = λ a t found on. among_stays goes out a (those_stay parts n goes a (Element t) found) (k.complete a t (those_found parts n goes n a (Element t) found) on);
      told = told_stays hand out xs untold k.told;
    }

    pub front_stays : (order : ℕ → ℕ) (front : ℕ) (out : List ℕ) → HasFront order front out n (parts n) → HasFront order front (staying goes out) n (now n)
    front_stays order front out k = record {
      queue = λ q found. k.queue q (those_found parts n goes n n (QueueHead q) found);
      behind = λ a t among found over.
          let b = k.behind a t (stays_among goes out a among).0 (those_found parts n goes n a (Element t) found) over in
          record { qtd = b.qtd; here = those_else parts n goes n a (stays_among goes out a among).1 ∙ b.here; done = b.done; before = b.before; leads = b.leads };
      passes = λ a b e t u among also found there over.
          k.passes a b e t u (stays_among goes out a among).0 (stays_among goes out e also).0 (those_found parts n goes n a (Element t) found) (those_found parts n goes n e (Element u) there) over;
      fresh = λ a t among found on. fresh_stays a t found (k.fresh a t (stays_among goes out a among).0 (those_found parts n goes n a (Element t) found) on);
    }

-- ---- all queue heads

beside_accounts : (order : ℕ → ℕ) (place : ℕ) (out : List ℕ) (hand : Hand) (parts : StructureSets) (n k : ℕ) (goes : ℕ → Bool) (xs : List ℕ) → k ≢ n → Accounts order place out hand parts k xs → Accounts order place out hand (without_those parts n goes) k xs
beside_accounts order place out hand parts n k goes xs differs acc =
    let now = without_those parts n goes in
    let same : now k ≡ parts k = those_beside parts n goes k differs in
    accounts_are_spared order order place place out hand hand parts now k xs (record { bytes = λ m q b t bs. refl; toggle = λ m q. refl })
    (λ q here. record { queue = q; here = ap (λ (part : Structures). part k) same ∙ here; overlay = record { token = refl; current = refl; offset = refl; endpoint = refl } })
    (λ e among. record { element = λ t here. ap (λ (part : Structures). part e) same ∙ here; bytes = λ t here. ap (λ (part : Structures). buffer_of part t) same })
    (subst (IsOrdered order place k) (sym same) acc.ordered) acc.sorted
    (λ a t among here from. acc.published a t among (ap (λ (part : Structures). part a) (sym same) ∙ here) from)
    (λ a t here on. acc.complete a t (ap (λ (part : Structures). part a) (sym same) ∙ here) on) acc

pub reported_are_returned : ReportedAreReturned
reported_are_returned streams order out hand parts acc reported n goes off keep untold all k on =
    let now = without_those parts n goes in
    let was = all k on in
    ⊎_elim (λ (same : k ≡ n).
    let accounts : Accounts (order n) was.place (staying goes (out n)) hand now n was.told = accounts_stay parts n goes off keep (order n) was.place (out n) hand was.told untold (subst (λ (i : ℕ). Accounts (order i) was.place (out i) hand parts i was.told) same was.accounts) in
    record {
      place = was.place;
      told = was.told;
      accounts = subst (λ (b : Bool). Accounts (order k) was.place (if b then staying goes (out k) else out k) hand now k was.told) (sym (eq-eqb k n same))
          (subst (λ (i : ℕ). Accounts (order i) was.place (staying goes (out i)) hand now i was.told) (sym same) accounts);
      sum = was.sum;
    })
    (λ (differs : k ≢ n). record {
      place = was.place;
      told = was.told;
      accounts = subst (λ (b : Bool). Accounts (order k) was.place (if b then staying goes (out k) else out k) hand now k was.told) (sym (other_number k n differs))
          (beside_accounts (order k) was.place (out k) hand parts n k goes was.told differs was.accounts);
      sum = was.sum;
    }) (cases_eq k n)

pub accounts_are_returned : AccountsAreReturned
accounts_are_returned order place out hand parts n goes xs off keep untold k = accounts_stay parts n goes off keep order place out hand xs untold k

pub front_is_returned : FrontIsReturned
front_is_returned order front out parts n goes off keep k = front_stays parts n goes off keep order front out k

pub pipes_stay : {W : Type 0} (sender : W → ℕ → ℕ → Option Sender) → PipesAreReturned sender
pipes_stay sender stream packets member streams endpoint acc parts hand wire n goes off k =
    let now = without_those parts n goes in
    record {
      pipes = λ i on.
          let p = k.pipes i on in
          record {
            named = spared_endpoint parts now i (endpoint i) (spares_head parts n goes off i) p.named;
            ins = λ a t found active. p.ins a t (those_found parts n goes i a (Element t) found) active;
            toggle = p.toggle;
            expects = spared_has_toggle hand hand parts now i p.toggle (record { bytes = λ m q b t bs. refl; toggle = λ m q. refl }) (spares_head parts n goes off i) p.expects;
            sender = p.sender;
            is = p.is;
            half = p.half;
          };
      others = λ i on none.
          let e = k.others i on none in (
            spared_endpoint parts now i (endpoint i) (spares_head parts n goes off i) e.0,
            ⊎_elim (λ (elsewhere : stream (endpoint i).addr (endpoint i).ep ≡ false). inl elsewhere)
                (λ (not_in : IsNotIn (parts i)). inr (λ a t found active. not_in a t (those_found parts n goes i a (Element t) found) active)) e.1,
          );
    }

-- ---- what was passed over

pub passed_has_none : PassedHasNone
passed_has_none order front out hand parts n e x k among before told on =
    let q : Qh = told.queue in
    let fresh = k.fresh e told.qtd among told.here on in
    let apart : q.token.active ≡ true → q.current ≢ e = λ active same. let at = (k.queue q told.head).work active in let i = ap order same in omega (arith, at, i, before) in
    let bs : List ℕ = buffer_of (parts n) told.qtd in
    let none : length bs - told.qtd.token.total ≡ 0 = omega (arith, fresh) in
    told.are ∙ not_worked hand n q e told.qtd bs (works_by q e q.token.active refl apart) ∙ ap (λ (i : ℕ). take i bs) none
