-- What is written beside a queue at rest leaves it at rest: a store, a lend, or structures that are given back.
use Rattle.std.proofs.Common.{◌≡◌, ◌≢◌, ℕ, ◌==◌, Bool, true, false, if◌then◌else◌, Option, Some, None, ap, refl, sym, subst, ◌∙◌, ⊎_elim}
use Rattle.std.proofs.lemmas.Bool.{cases_eq, eq-eqb, false≢true}
use Rattle.law_devices.proofs.Common.{pointer_still, is_same}
use Rattle.law_common.proofs.Numbers.{other_number}
use Rattle.usb_base.specs.declared.packets.Reply.{Reply}
use Rattle.link_words.specs.declared.fields.LinkBits.{LinkBits}
use Rattle.link_words.specs.Links.{qtd_link_of}
use Rattle.qh_qtd.specs.declared.token.Token.{Token}
use Rattle.qh_qtd.specs.declared.qtd.Qtd.{Qtd}
use Rattle.qh_qtd.specs.declared.queue_head.Qh.{Qh}
use Rattle.toggle_error.specs.declared.host.HostSide.{HostSide}
use Rattle.hc_host_side.specs.HostToken.{host_at}
use Rattle.hc_copy.specs.Planning.{host_in}
use Rattle.law_structures.specs.lent_structures.Structures.{Structure, QueueHead, Element, Structures, StructureSets, put}
use Rattle.law_structures.proofs.lemmas.lent_structures.Names.{put_same, put_else, put_beside}
use Rattle.law_structures.proofs.lemmas.lent_structures.Altering.{found_queue, no_two}
use Rattle.dev_control.specs.Stages.{Stages}
use Rattle.law_request.specs.Host.{Endpoint}
use Rattle.claims_report.specs.ControlSides.{Device}
use Rattle.law_devices.specs.request_calls.Stages.{IsEndpoint}
use Rattle.law_ring.specs.Hand.{Copy, copied_queue, Hand, Empty, Copied, Settled, Stale}
use Rattle.law_ring.specs.Ring.{IsInHand}
use Rattle.law_ring.specs.Stores.{hand_linked, hand_stale}
use Rattle.law_ring.specs.Fewer.{fewer_structures, without_those}
use Rattle.law_ring.specs.Front.{SameRest}
use Rattle.law_ring.specs.Told.{HasEndpoint, endpoint_of, Endpoint as Characteristics}
use Rattle.law_devices.specs.ring_requests.Laid.{IsIdle}
use Rattle.law_devices.specs.ring_requests.Shown.{hand_side}
use Rattle.law_devices.specs.ring_requests.Resting.{IsAtRest, IsOtherEndpoint, IsAlone, HeadStays, RestIsSame, RestIsSpared, AloneIsSpared, StoreSparesRest, LendSparesRest, ReleaseSparesRest, SameSide, LinkSparesRest, MendSparesRest, MendedRests}

-- ---- the queue head

pub endpoint_same : (e : Endpoint) (q r : Qh) → endpoint_of r ≡ endpoint_of q → IsEndpoint e q → IsEndpoint e r
endpoint_same e q r same is = record {
  toggles = ap (λ (x : Characteristics). x.dtc) same ∙ is.toggles;
  address = ap (λ (x : Characteristics). x.addr) same ∙ is.address;
  number = ap (λ (x : Characteristics). x.ep) same ∙ is.number;
  packets = ap (λ (x : Characteristics). x.max) same ∙ is.packets;
}

pub host_same : (q r : Qh) → r.token ≡ q.token → r.max ≡ q.max → host_in r ≡ host_in q
host_same q r token max = ap (λ (t : Token). host_at t r.max) token ∙ ap (λ (m : ℕ). host_at q.token m) max

module _ (q r : Qh) (host : host_in r ≡ host_in q) where
  by_copy : (b : Bool) (s : HostSide) → (if b then s else host_in q) ≡ host_in q → (if b then s else host_in r) ≡ host_in r
  by_copy true s is = is ∙ sym host
  by_copy false s is = refl

  side_still : (hand : Hand) (n : ℕ) → hand_side hand n q ≡ host_in q → hand_side hand n r ≡ host_in r
  side_still (Settled c z) n is = by_copy (c.at == n) z.host is
  side_still _ n is = refl

pub rest_is_spared : RestIsSpared
rest_is_spared e c b n hand later parts now o sides head tail k =
    let queue : head.queue ≡ k.queue = found_queue (parts n n) head.queue k.queue head.here k.head in
    let same : SameRest k.queue head.later = subst (λ (q : Qh). SameRest q head.later) queue head.rest in
    let own : endpoint_of head.later ≡ endpoint_of k.queue = head.own ∙ ap endpoint_of queue in
    record {
      queue = head.later;
      head = head.there;
      control = endpoint_same e k.queue head.later own k.control;
      idle = ap (λ (t : Token). t.active) same.token ∙ k.idle;
      unsettled = sides head.later ∙ side_still k.queue head.later (host_same k.queue head.later same.token (ap (λ (x : Characteristics). x.max) own)) hand n k.unsettled;
      leads = λ goes_on. ap qtd_link_of (pointer_still k.queue head.later same) ∙ k.leads (ap (λ (t : Token). t.halted) (sym same.token) ∙ goes_on);
      tail = tail;
      max = k.max;
      device = k.device;
    }

pub alone_is_spared : AloneIsSpared
alone_is_spared member e n parts now heads alone k on differs = let o : IsOtherEndpoint e parts k = alone k on differs in record { own = o.own; has = heads k o.own differs o.has; other = o.other }

-- ---- what stays

-- all queue heads stay
module _ (member : ℕ → Bool) (e : Endpoint) (c : Stages) (b n : ℕ) (hand : Hand) (parts now : StructureSets) (o : Option Device) (heads : (k : ℕ) (q : Qh) → parts k k ≡ Some (QueueHead q) → now k k ≡ Some (QueueHead q)) where
  all_spared : IsIdle (now n) b → IsAlone member e parts n → IsAtRest e c b hand parts n o → RestIsSame member e c b hand now n o
  all_spared tail alone k = record {
    rest = rest_is_spared e c b n hand hand parts now o (λ q. refl) (record { queue = k.queue; here = k.head; later = k.queue; there = heads n k.queue k.head; rest = is_same k.queue; own = refl }) tail k;
    alone = alone_is_spared member e n parts now (λ i own differs has. record { queue = has.queue; head = heads i has.queue has.head; is = has.is }) alone;
  }

-- ---- a store

module _ (parts : StructureSets) (k a : ℕ) (old new : Qtd) (here : parts k a ≡ Some (Element old)) where
  abbrev now : StructureSets
  now = put parts k a (Element new)

  store_else : (n b : ℕ) (s : Structure) → (n ≡ k → b ≢ a) → parts n b ≡ Some s → put parts k a (Element new) n b ≡ Some s
  store_else n b s other there =
      ⊎_elim {C = now n b ≡ Some s} (λ (same : n ≡ k). subst (λ (i : ℕ). parts i b ≡ Some s → now i b ≡ Some s) (sym same) (λ is. put_else parts k a (Element new) b (other same) ∙ is) there)
      (λ (differs : n ≢ k). ap (λ (part : Structures). part b) (put_beside parts k a (Element new) n differs) ∙ there) (cases_eq n k)

  store_heads : (n : ℕ) (q : Qh) → parts n n ≡ Some (QueueHead q) → put parts k a (Element new) n n ≡ Some (QueueHead q)
  store_heads n q head = store_else n n (QueueHead q) (λ same. no_two (parts k) n a (QueueHead q) (Element old) (ap (λ (i : ℕ). parts i n) (sym same) ∙ head) here (λ z. cc)) head

  store_tail : (n b : ℕ) → (k ≡ n → a ≡ b → new.token.active ≡ false) → IsIdle (parts n) b → IsIdle (put parts k a (Element new) n) b
  store_tail n b idle t =
      ⊎_elim {C = IsIdle (now n) b}
      (λ (same : k ≡ n).
      ⊎_elim {C = IsIdle (now n) b}
      (λ (at : a ≡ b). record { qtd = new; here = ap (λ (i : ℕ). now i b) (sym same) ∙ ap (now k) (sym at) ∙ put_same parts k a (Element new); idle = idle same at })
      (λ (differs : a ≢ b). record { qtd = t.qtd; here = store_else n b (Element t.qtd) (λ one is. differs (sym is)) t.here; idle = t.idle }) (cases_eq a b))
      (λ (differs : k ≢ n). record { qtd = t.qtd; here = store_else n b (Element t.qtd) (λ one is. differs (sym one)) t.here; idle = t.idle }) (cases_eq k n)

pub store_spares_rest : StoreSparesRest
store_spares_rest member e c b n hand parts o k a old new here idle alone r =
    all_spared member e c b n hand parts (put parts k a (Element new)) o (store_heads parts k a old new here) (store_tail parts k a old new here n b idle r.tail) alone r

-- ---- a lend

pub lend_spares_rest : LendSparesRest
lend_spares_rest member e c b n hand parts now o still alone r =
    all_spared member e c b n hand parts now o (λ k q head. still k k (QueueHead q) head) (record { qtd = r.tail.qtd; here = still n b (Element r.tail.qtd) r.tail.here; idle = r.tail.idle }) alone r

-- ---- structures that are given back

module _ (parts : StructureSets) (k : ℕ) (goes : ℕ → Bool) where
  fewer_here : (n b : ℕ) (s : Structure) → (n ≡ k → goes b ≡ false) → parts n b ≡ Some s → without_those parts k goes n b ≡ Some s
  fewer_here n b s stays there =
      ⊎_elim {C = without_those parts k goes n b ≡ Some s}
      (λ (same : n ≡ k).
      ap (λ (x : Bool). (if x then fewer_structures goes (parts n) else parts n) b) (eq-eqb n k same) ∙ ap (λ (x : Bool). if x then None else parts n b) (stays same) ∙ there)
      (λ (differs : n ≢ k). ap (λ (x : Bool). (if x then fewer_structures goes (parts n) else parts n) b) (other_number n k differs) ∙ there) (cases_eq n k)

pub release_spares_rest : ReleaseSparesRest
release_spares_rest member e c b n hand parts o k goes head tail alone r =
    all_spared member e c b n hand parts (without_those parts k goes) o (λ i q here. fewer_here parts k goes i i (QueueHead q) (λ same. ap goes same ∙ head) here)
    (record { qtd = r.tail.qtd; here = fewer_here parts k goes n b (Element r.tail.qtd) (λ same. tail (sym same)) r.tail.here; idle = r.tail.idle }) alone r

-- ---- a queue head is stored over

pub linked_side : (k n : ℕ) (l : LinkBits) (hand : Hand) → SameSide hand (hand_linked k l hand) n
linked_side k n l Empty q = refl
linked_side k n l _ q = refl

stale_by : (k n : ℕ) (c : Copy) (q : Qh) (b : Bool) → hand_side (if b then Stale k (copied_queue c) else Copied c) n q ≡ host_in q
stale_by k n c q true = refl
stale_by k n c q false = refl

pub stale_side : (k n : ℕ) (hand : Hand) → SameSide hand (hand_stale k hand) n
stale_side k n (Copied c) q = stale_by k n c q (c.at == k)
stale_side k n _ q = refl

module _ (parts : StructureSets) (k : ℕ) (q new : Qh) (here : parts k k ≡ Some (QueueHead q)) (own : endpoint_of new ≡ endpoint_of q) where
  abbrev mended : StructureSets
  mended = put parts k k (QueueHead new)

  has_still : (i : ℕ) (x : Characteristics) → HasEndpoint parts i x → HasEndpoint (put parts k k (QueueHead new)) i x
  has_still i x has =
      ⊎_elim {C = HasEndpoint mended i x}
      (λ (same : i ≡ k).
      record {
        queue = new;
        head = ap (λ (j : ℕ). mended j j) same ∙ put_same parts k k (QueueHead new);
        is = has.is ∙ ap endpoint_of (found_queue (parts k k) has.queue q (ap (λ (j : ℕ). parts j j) (sym same) ∙ has.head) here) ∙ sym own;
      })
      (λ (differs : i ≢ k). record { queue = has.queue; head = ap (λ (part : Structures). part i) (put_beside parts k k (QueueHead new) i differs) ∙ has.head; is = has.is }) (cases_eq i k)

  idle_there : (n b : ℕ) → IsIdle (parts n) b → IsIdle (put parts k k (QueueHead new) n) b
  idle_there n b t =
      ⊎_elim {C = IsIdle (mended n) b}
      (λ (same : n ≡ k).
      let at : parts k b ≡ Some (Element t.qtd) = ap (λ (i : ℕ). parts i b) (sym same) ∙ t.here in
      record {
        qtd = t.qtd;
        here = ap (λ (i : ℕ). mended i b) same ∙ put_else parts k k (QueueHead new) b (no_two (parts k) b k (Element t.qtd) (QueueHead q) at here (λ z. cc)) ∙ at;
        idle = t.idle;
      })
      (λ (differs : n ≢ k). record { qtd = t.qtd; here = ap (λ (part : Structures). part b) (put_beside parts k k (QueueHead new) n differs) ∙ t.here; idle = t.idle }) (cases_eq n k)

  -- another one
  head_beside : (n : ℕ) (r : Qh) → n ≢ k → parts n n ≡ Some (QueueHead r) → HeadStays (parts n) (put parts k k (QueueHead new) n) n
  head_beside n r differs head = record { queue = r; here = head; later = r; there = ap (λ (part : Structures). part n) (put_beside parts k k (QueueHead new) n differs) ∙ head; rest = is_same r; own = refl }

  -- or this one, with the same overlay
  head_linked : (n : ℕ) (r : Qh) → SameRest q new → parts n n ≡ Some (QueueHead r) → HeadStays (parts n) (put parts k k (QueueHead new) n) n
  head_linked n r same head =
      ⊎_elim {C = HeadStays (parts n) (mended n) n}
      (λ (at : n ≡ k). record { queue = q; here = ap (λ (j : ℕ). parts j n) at ∙ ap (parts k) at ∙ here; later = new; there = ap (λ (j : ℕ). mended j n) at ∙ ap (mended k) at ∙ put_same parts k k (QueueHead new); rest = same; own = own })
      (λ (differs : n ≢ k). head_beside n r differs head) (cases_eq n k)

pub link_spares_rest : LinkSparesRest
link_spares_rest member e c b n hand parts o k q l here alone r = record {
  rest = rest_is_spared e c b n hand (hand_linked k l hand) parts (put parts k k (QueueHead (record q { link = l }))) o (linked_side k n l hand)
      (head_linked parts k q (record q { link = l }) here refl n r.queue (record { token = refl; current = refl; next = refl; alternate = refl }) r.head) (idle_there parts k q (record q { link = l }) here refl n b r.tail) r;
  alone = alone_is_spared member e n parts (put parts k k (QueueHead (record q { link = l }))) (λ i own differs. has_still parts k q (record q { link = l }) here refl i own) alone;
}

pub mend_spares_rest : MendSparesRest
mend_spares_rest member e c b n hand parts o k q new differs here own alone r = record {
  rest = rest_is_spared e c b n hand (hand_stale k hand) parts (put parts k k (QueueHead new)) o (stale_side k n hand) (head_beside parts k q new here own n r.queue (λ is. differs (sym is)) r.head)
      (idle_there parts k q new here own n b r.tail) r;
  alone = alone_is_spared member e n parts (put parts k k (QueueHead new)) (λ i x other. has_still parts k q new here own i x) alone;
}

-- a transaction that isn't written back is that of another queue head
pub idle_side : (member : ℕ → Bool) (parts : StructureSets) (reply : Reply) (n : ℕ) (q new : Qh) (hand : Hand) → IsInHand member parts reply hand → parts n n ≡ Some (QueueHead q) → q.token.active ≡ false → hand_side hand n new ≡ host_in new
idle_side member parts reply n q new (Settled c z) in_hand head idle =
    ⊎_elim {C = (if c.at == n then z.host else host_in new) ≡ host_in new}
    (λ (same : c.at ≡ n).
    let is : c.queue ≡ q = found_queue (parts n n) c.queue q (ap (λ (i : ℕ). parts i i) (sym same) ∙ in_hand.0.here) head in
    absurd (false≢true (sym idle ∙ ap (λ (x : Qh). x.token.active) (sym is) ∙ in_hand.1.works)))
    (λ (differs : c.at ≢ n). ap (λ (b : Bool). if b then z.host else host_in new) (other_number c.at n differs)) (cases_eq c.at n)
idle_side member parts reply n q new _ in_hand head idle = refl

pub mended_rests : MendedRests
mended_rests member e c b d n hand reply parts o new in_hand alone k own idle leads tail = record {
  rest = record {
    queue = new;
    head = put_same parts n n (QueueHead new);
    control = endpoint_same e k.queue new own k.control;
    idle = idle;
    unsettled = stale_side n n hand new ∙ idle_side member parts reply n k.queue new hand in_hand k.head k.idle;
    leads = leads;
    tail = idle_there parts n k.queue new k.head own n d tail;
    max = k.max;
    device = k.device;
  };
  alone = alone_is_spared member e n parts (put parts n n (QueueHead new)) (λ i x other. has_still parts n k.queue new k.head own i x)
      alone;
}
