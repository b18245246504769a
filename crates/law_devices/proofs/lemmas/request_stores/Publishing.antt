-- The last store publishes a request: it is one more of its endpoint's, behind the others, and all windows stand as they did.
use Rattle.std.proofs.Common.{◌≡◌, ◌≢◌, ℕ, zero, suc, ◌-◌, ◌<◌, ◌≤◌, ◌==◌, ◌&&◌, Bool, true, false, if◌then◌else◌, List, [], length, take, Option, Some, None, ap, refl, sym, subst, ◌∙◌, ⊎_elim, inr, arith}
use Rattle.std.proofs.lemmas.Bool.{cases_eq, eq-eqb}
use Rattle.law_common.proofs.Booleans.{and_false}
use Rattle.law_common.proofs.Numbers.{other_number}
use Rattle.qh_qtd.specs.declared.qtd.Qtd.{Qtd}
use Rattle.qh_qtd.specs.declared.queue_head.Qh.{Qh}
use Rattle.law_structures.specs.lent_structures.Structures.{Element, Structures, StructureSets, put}
use Rattle.law_structures.specs.lent_structures.Sound.{HasBuffer}
use Rattle.claims_report.specs.Requests.{Request}
use Rattle.law_request.specs.Host.{Endpoint, Setup, Data}
use Rattle.law_request.specs.Windows.{IsRequest}
use Rattle.claims_report.specs.ControlSides.{Device}
use Rattle.law_ring.specs.Hand.{Hand, Settled}
use Rattle.law_ring.specs.Effects.{bytes_in, buffer_of}
use Rattle.law_ring.specs.Told.{works_on, told_bytes, settled_bytes, hand_bytes}
use Rattle.law_ring.proofs.Growing.{works_not}
use Rattle.law_devices.specs.ring_requests.Laid.{Places, IsPlace, AreApart, AreOthers, IsIdle, IsFresh}
use Rattle.law_devices.specs.ring_requests.Windows.{Sent, Queue, sent_at, Lines, IsWindow, IsFinished, IsBehind, IsQueue, AreChained, AreSent, IsElsewhere, AreWindows}
use Rattle.law_devices.specs.request_stores.Published.{IsNextRequest, with_request, new_sent, sent_with, IsPublished, LastStoreKeepsWindows}
use Rattle.law_devices.proofs.lemmas.request_stores.Keeping.{Keeps, window_kept, finished_kept, one_behind_kept}
use Rattle.law_devices.proofs.lemmas.request_stores.Storing.{store_keeps, store_head, store_beside, elsewhere_still, queue_beside}

-- ---- nothing is told of it yet

not_worked : (q : Qh) (a : ℕ) (b : Bool) → q.token.active ≡ b → (q.token.active ≡ true → q.current ≢ a) → works_on q a ≡ false
not_worked q a false off other = ap (λ (b : Bool). b && q.current == a) off
not_worked q a true on other = works_not q a (other on)

as_told : (hand : Hand) (n : ℕ) (q : Qh) (a : ℕ) (t : Qtd) (bs : List ℕ) → works_on q a ≡ false → hand_bytes hand n q a t bs ≡ told_bytes q a t bs
as_told (Settled c z) n q a t bs off =
    ap (λ (b : Bool). if c.at == n && b then settled_bytes q t z bs else told_bytes q a t bs) off ∙ ap (λ (b : Bool). if b then settled_bytes q t z bs else told_bytes q a t bs) (and_false (c.at == n))
as_told _ n q a t bs off = refl

none_told : (hand : Hand) (n : ℕ) (q : Qh) (a : ℕ) (t : Qtd) (bs : List ℕ) → works_on q a ≡ false → length bs ≡ t.token.total → [] ≡ hand_bytes hand n q a t bs
none_told hand n q a t bs off size =
    sym (as_told hand n q a t bs off
    ∙ ap (λ (b : Bool). take (length bs - (if b then q.token.total else t.token.total)) bs) off
    ∙ ap (λ (k : ℕ). take k bs) (let none : length bs - t.token.total ≡ 0 = omega (arith, size) in none))

-- ---- the queue with it

module _ (v : Queue) (r : Request) (x : Places) where
  pub with_old : (i : ℕ) → i < v.count → sent_at (with_request v r x) i ≡ sent_at v i
  with_old i few = ap (λ (b : Bool). record { endpoint = v.endpoint; request = if b then r else v.requests i; places = if b then x else v.places i }) (other_number i v.count (λ is. omega (arith, few, is)))

  pub with_new : (i : ℕ) → i ≡ v.count → sent_at (with_request v r x) i ≡ new_sent v r x
  with_new i is = ap (λ (b : Bool). record { endpoint = v.endpoint; request = if b then r else v.requests i; places = if b then x else v.places i }) (eq-eqb i v.count is)

  with_cases : (P : Sent → Type 0) (i : ℕ) → i < suc v.count → (i ≡ v.count → P (new_sent v r x)) → (i < v.count → P (sent_at v i)) → P (sent_at (with_request v r x) i)
  with_cases P i few new old =
      ⊎_elim {C = P (sent_at (with_request v r x) i)} (λ (is : i ≡ v.count). subst P (sym (with_new i is)) (new is))
      (λ (differs : i ≢ v.count). let less : i < v.count = omega (arith, few, differs) in subst P (sym (with_old i less)) (old less)) (cases_eq i v.count)

-- what AreSent asks of each queue
pub record IsGood (v : Queue) : Type 0 where
  pub requests : (i : ℕ) → i < v.count → IsRequest (v.requests i)
  pub whole : 8 ≤ v.endpoint.max
  pub places : (i : ℕ) → i < v.count → AreApart (v.places i)
  pub others : (i k : ℕ) → i < v.count → k < v.count → i ≢ k → AreOthers (v.places i) (v.places k)
  pub chained : AreChained v

pub good_of : (member windows : ℕ → Bool) (sent : ℕ → Queue) → AreSent member windows sent → (n : ℕ) → windows n ≡ true → IsGood (sent n)
good_of member windows sent fixed n on = record { requests = λ i. fixed.requests n i on; whole = fixed.whole n on; places = λ i. fixed.places n i on; others = λ i k. fixed.others n i k on; chained = fixed.chained n on }

module _ (v : Queue) (r : Request) (x : Places) (part : Structures) (k : IsNextRequest v r x part) where
  pub good_with : IsGood v → IsGood (with_request v r x)
  good_with good = record {
    requests = λ i few. with_cases v r x (λ (s : Sent). IsRequest s.request) i few (λ is. k.request) (good.requests i);
    whole = good.whole;
    places = λ i few. with_cases v r x (λ (s : Sent). AreApart s.places) i few (λ is. k.apart) (good.places i);
    others = λ i j few fewer differs.
        with_cases v r x (λ (s : Sent). AreOthers s.places ((with_request v r x).places j)) i few
        (λ is. with_cases v r x (λ (s : Sent). AreOthers x s.places) j fewer (λ same. absurd (differs (is ∙ sym same))) (λ less a b same. k.others j less b a (sym same)))
        (λ less. with_cases v r x (λ (s : Sent). AreOthers (v.places i) s.places) j fewer (λ same. k.others i less) (λ lesser. good.others i j less lesser differs));
    chained = λ i few.
        with_cases v r x (λ (s : Sent). s.places.behind ≡ Some ((with_request v r x).places (suc i)).setup) i (omega (arith, few)) (λ is. absurd (omega (arith, few, is)))
        (λ less. with_cases v r x (λ (s : Sent). (v.places i).behind ≡ Some s.places.setup) (suc i) few (k.behind i) (good.chained i));
  }

-- ---- all queues

module _ (sent : ℕ → Queue) (n : ℕ) (r : Request) (x : Places) where
  sent_here : (k : ℕ) → k ≡ n → sent_with sent n r x k ≡ with_request (sent k) r x
  sent_here k at = ap (λ (b : Bool). if b then with_request (sent k) r x else sent k) (eq-eqb k n at)

  sent_beside : (k : ℕ) → k ≢ n → sent_with sent n r x k ≡ sent k
  sent_beside k differs = ap (λ (b : Bool). if b then with_request (sent k) r x else sent k) (other_number k n differs)

  endpoint_by : (k : ℕ) (b : Bool) → (if b then with_request (sent k) r x else sent k).endpoint ≡ (sent k).endpoint
  endpoint_by k true = refl
  endpoint_by k false = refl

  endpoint_same : (k : ℕ) → (sent_with sent n r x k).endpoint ≡ (sent k).endpoint
  endpoint_same k = endpoint_by k (k == n)

  others_same : (k i : ℕ) → i < (sent k).count → sent_at (sent_with sent n r x k) i ≡ sent_at (sent k) i
  others_same k i few = by (k == n)
    where
      by : (b : Bool) → sent_at (if b then with_request (sent k) r x else sent k) i ≡ sent_at (sent k) i
      by true = with_old (sent k) r x i few
      by false = refl

  module _ (member windows : ℕ → Bool) (fixed : AreSent member windows sent) (part : Structures) (next : IsNextRequest (sent n) r x part) where
    good_each : (k : ℕ) → windows k ≡ true → IsGood (sent_with sent n r x k)
    good_each k on =
        ⊎_elim {C = IsGood (sent_with sent n r x k)}
        (λ (at : k ≡ n).
        subst IsGood (sym (sent_here k at)) (good_with (sent k) r x part (subst (λ (i : ℕ). IsNextRequest (sent i) r x part) (sym at) next) (good_of member windows sent fixed k on)))
        (λ (differs : k ≢ n). subst IsGood (sym (sent_beside k differs)) (good_of member windows sent fixed k on)) (cases_eq k n)

    sent_are : AreSent member windows (sent_with sent n r x)
    sent_are = record {
      members = fixed.members;
      requests = λ k i on. (good_each k on).requests i;
      whole = λ k on. (good_each k on).whole;
      places = λ k i on. (good_each k on).places i;
      others = λ k i j on. (good_each k on).others i j;
      chained = λ k on. (good_each k on).chained;
      apart = λ k j on one same same_too.
          fixed.apart k j on one (ap (λ (e : Endpoint). e.addr) (sym (endpoint_same k)) ∙ same ∙ ap (λ (e : Endpoint). e.addr) (endpoint_same j))
          (ap (λ (e : Endpoint). e.num) (sym (endpoint_same k)) ∙ same_too ∙ ap (λ (e : Endpoint). e.num) (endpoint_same j));
    }

  elsewhere_with : (windows : ℕ → Bool) (parts : StructureSets) (k : ℕ) → IsElsewhere windows sent parts k → IsElsewhere windows (sent_with sent n r x) parts k
  elsewhere_with windows parts k w = record {
    own = w.own;
    has = w.has;
    other = λ j on same same_too. w.other j on (ap (λ (e : Endpoint). e.addr) (sym (endpoint_same j)) ∙ same) (ap (λ (e : Endpoint). e.num) (sym (endpoint_same j)) ∙ same_too);
  }

-- ---- the queue of its endpoint

module _ (v : Queue) (hand : Hand) (parts : StructureSets) (n : ℕ) (r : Request) (x : Places) (old new : Qtd) (here : parts n x.setup ≡ Some (Element old)) (next : IsNextRequest v r x (put parts n x.setup (Element new) n)) (chained : AreChained v) where
  abbrev now : StructureSets
  now = put parts n x.setup (Element new)

  has_behind : (i : ℕ) → i < v.count → (v.places i).behind ≡ None → ⊥
  has_behind i few none =
      ⊎_elim (λ (last : suc i ≡ v.count). by (sym none ∙ next.behind i last)) (λ (more : suc i ≢ v.count). by (sym none ∙ chained i (omega (arith, few, more)))) (cases_eq (suc i) v.count)
    where
      by : {a : ℕ} → None ≡ Some a → ⊥
      by e = cc

  keeps : Keeps v n (parts n) (put parts n x.setup (Element new) n)
  keeps = store_keeps parts n x.setup old new here v (λ i s few. next.others i few s Setup) (inr has_behind)

  new_behind : (l : Lines) (o : Option Device) → IsQueue v l hand parts n o → IsBehind (new_sent v r x) hand (put parts n x.setup (Element new)) n
  new_behind l o w = record {
    fresh = next.fresh;
    none_told = λ some.
        let q : Qh = w.window.queue in
        let f : IsFresh v.endpoint r x (now n) Data = next.fresh Data some in
        let b : HasBuffer (now n) f.stage.qtd f.stage.qtd.token.total = next.buffer some f.stage.qtd f.stage.here in
        record {
          queue = q;
          head = store_head parts n x.setup old new here q w.window.head;
          qtd = f.stage.qtd;
          here = f.stage.here;
          are = none_told hand n q x.data_at f.stage.qtd (buffer_of (now n) f.stage.qtd)
              (not_worked q x.data_at q.token.active refl (λ on is. let place : IsPlace (v.places l.under) q.current = w.window.among on in next.others l.under w.within place.stage Data (sym place.is ∙ is)))
              (ap length (ap bytes_in b.here) ∙ b.size);
        };
  }

  published : (l : Lines) (o : Option Device) → IsQueue v l hand parts n o → IsQueue (with_request v r x) l hand (put parts n x.setup (Element new)) n o
  published l o w = record {
    within = let within = w.within in omega (arith, within);
    window = subst (λ (s : Sent). IsWindow s (l.line l.under) hand now n o) (sym (with_old v r x l.under w.within)) (window_kept v hand parts now n keeps l.under w.within (l.line l.under) o w.window);
    finished = λ i less.
        let within = w.within in
        let few : i < v.count = omega (arith, less, within) in
        subst (λ (s : Sent). IsFinished s (l.line i) hand now n) (sym (with_old v r x i few)) (finished_kept v hand parts now n keeps i few (l.line i) (w.finished i less));
    behind = λ i more few.
        with_cases v r x (λ (s : Sent). IsBehind s hand now n) i few (λ is. new_behind l o w) (λ fewer. one_behind_kept v hand parts now n keeps i fewer (w.behind i more fewer));
    tail = λ i a last is.
        let at : i ≡ v.count = omega (arith, last) in
        next.tail a (subst (λ (s : Sent). s.places.behind ≡ Some a) (with_new v r x i at) is);
  }

-- ---- the law

module _ {W : Type 0} (device : W → ℕ → ℕ → Option Device) (member windows : ℕ → Bool) (sent : ℕ → Queue) (lines : ℕ → Lines) (parts : StructureSets) (hand : Hand) (wire : W) (n : ℕ) (r : Request) (x : Places) (new : Qtd) (fixed : AreSent member windows sent) (on : windows n ≡ true) (next : IsNextRequest (sent n) r x (put parts n x.setup (Element new) n)) (all : AreWindows device member windows sent lines parts hand wire) where
  mine : IsQueue (sent n) (lines n) hand parts n (device wire (sent n).endpoint.addr (sent n).endpoint.num)
  mine = all.each n on

  -- it leads to the tail
  record IsLast : Type 0 where
    at : ℕ
    is : suc at ≡ (sent n).count

  one_last : (count : ℕ) → (sent n).count ≡ count → (lines n).under < count → IsLast
  one_last zero is few = absurd (omega (arith, few))
  one_last (suc i) is few = record { at = i; is = sym is }

  last : IsLast
  last = one_last (sent n).count refl mine.within

  tail : IsIdle (parts n) x.setup
  tail = mine.tail last.at x.setup last.is (next.behind last.at last.is)

  abbrev stored : StructureSets
  stored = put parts n x.setup (Element new)

  each : (k : ℕ) → windows k ≡ true → IsQueue (sent_with sent n r x k) (lines k) hand (put parts n x.setup (Element new)) k (device wire (sent_with sent n r x k).endpoint.addr (sent_with sent n r x k).endpoint.num)
  each k one =
      ⊎_elim {C = IsQueue (sent_with sent n r x k) (lines k) hand stored k (device wire (sent_with sent n r x k).endpoint.addr (sent_with sent n r x k).endpoint.num)}
      (λ (at : k ≡ n).
      subst (λ (i : ℕ). IsQueue (sent_with sent n r x i) (lines i) hand stored i (device wire (sent_with sent n r x i).endpoint.addr (sent_with sent n r x i).endpoint.num)) (sym at)
      (subst (λ (v : Queue). IsQueue v (lines n) hand stored n (device wire v.endpoint.addr v.endpoint.num)) (sym (sent_here sent n r x n refl))
      (published (sent n) hand parts n r x tail.qtd new tail.here next (fixed.chained n on) (lines n) (device wire (sent n).endpoint.addr (sent n).endpoint.num) mine)))
      (λ (differs : k ≢ n).
      subst (λ (v : Queue). IsQueue v (lines k) hand stored k (device wire v.endpoint.addr v.endpoint.num)) (sym (sent_beside sent n r x k differs))
      (queue_beside parts stored n (store_beside parts n x.setup tail.qtd new tail.here) (store_head parts n x.setup tail.qtd new tail.here) (sent k) (lines k) hand k (device wire (sent k).endpoint.addr (sent k).endpoint.num) differs (all.each k one)))
      (cases_eq k n)

  is_published : IsPublished device member windows sent lines (put parts n x.setup (Element new)) hand wire n r x
  is_published = record {
    sent_are = sent_are sent n r x member windows fixed (stored n) next;
    windows_are = record {
      each = each;
      others = λ k yes off.
          elsewhere_with sent n r x windows stored k
          (elsewhere_still parts stored n (store_beside parts n x.setup tail.qtd new tail.here) (store_head parts n x.setup tail.qtd new tail.here) windows sent k (all.others k yes off));
    };
    count = ap (λ (v : Queue). v.count) (sent_here sent n r x n refl);
    is = ap (λ (v : Queue). sent_at v (sent n).count) (sent_here sent n r x n refl) ∙ with_new (sent n) r x (sent n).count refl;
    behind = new_behind (sent n) hand parts n r x tail.qtd new tail.here next (fixed.chained n on) (lines n) (device wire (sent n).endpoint.addr (sent n).endpoint.num) mine;
    others = others_same sent n r x;
  }

pub last_windows : {W : Type 0} (device : W → ℕ → ℕ → Option Device) → LastStoreKeepsWindows device
last_windows device member windows sent lines parts hand wire n r x new fixed on next all = is_published device member windows sent lines parts hand wire n r x new fixed on next all
