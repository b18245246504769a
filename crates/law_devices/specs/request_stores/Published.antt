-- A control request is published behind the others of its endpoint while the walk goes on (EHCI 1.0, 3.5, 4.10 and 4.10.2; USB 2.0, 8.5.3): its further qTDs
-- are lent, then its SETUP is stored into the queue's tail, the token last.
--     IsUnled part a             no link of the part leads to a
--     IsAside v part a t         the qTD t at a is none of the requests' of v, and it isn't published by standing there
--     IsLend ..                  further structures of the queue head at n stand beside those that it had
--     IsNextRequest v r x part   the part has the qTDs of the request r at the places x, with the SETUP where the last status of v leads
--     with_request v r x         v with this request behind the others; `new_sent` is the request
--     without_first v            v without its first request
--     sent_with sent n r x       the same of all queues, where the one of n has it
--     IsPublished ..             all stands as it must with it, and no other request is changed
--     LendKeepsWindows, IdleStoreKeepsWindows, LastStoreKeepsWindows
--                                the laws
use Rattle.std.specs.Prelude.{◌≡◌, ◌≢◌, ℕ, suc, ◌-◌, ◌<◌, ◌==◌, ◌⊎◌, Bool, true, false, Option, Some, None, if◌then◌else◌}
use Rattle.link_words.specs.declared.kinds.QtdLink.TheVariants.{To}
use Rattle.link_words.specs.Links.{qtd_link_of}
use Rattle.qh_qtd.specs.declared.qtd.Qtd.{Qtd}
use Rattle.qh_qtd.specs.declared.queue_head.Qh.{Qh}
use Rattle.law_structures.specs.lent_structures.Structures.{Structure, QueueHead, Element, Structures, StructureSets, put}
use Rattle.law_structures.specs.lent_structures.Sound.{buffer_name, HasBuffer}
use Rattle.claims_report.specs.Requests.{Request}
use Rattle.law_request.specs.Host.{Stage, Setup, has_data}
use Rattle.law_request.specs.Windows.{IsRequest}
use Rattle.claims_report.specs.ControlSides.{Device}
use Rattle.law_ring.specs.Hand.{Hand}
use Rattle.law_devices.specs.ring_requests.Laid.{Places, place_at, AreApart, AreOthers, IsIdle}
use Rattle.law_devices.specs.ring_requests.Shown.{pointer_at, AreFresh}
use Rattle.law_devices.specs.ring_requests.Windows.{Sent, Queue, sent_at, Lines, IsBehind, AreSent, AreWindows}

-- ---- structures are lent

pub record IsUnled (part : Structures) (a : ℕ) : Type 0 where
  pub next : (b : ℕ) (t : Qtd) → part b ≡ Some (Element t) → qtd_link_of t.next ≢ To a
  pub alternate : (b : ℕ) (t : Qtd) → part b ≡ Some (Element t) → qtd_link_of t.alternate ≢ To a
  pub overlay : (b left : ℕ) (q : Qh) → part b ≡ Some (QueueHead q) → qtd_link_of (pointer_at left q) ≢ To a

-- where the queue has no tail, its last link mustn't lead to it
pub record IsAside (v : Queue) (part : Structures) (a : ℕ) (t : Qtd) : Type 0 where
  pub places : (i : ℕ) (s : Stage) → i < v.count → place_at (v.places i) s ≢ a
  pub unled : (i : ℕ) → i < v.count → (v.places i).behind ≡ None → t.token.active ≡ true → IsUnled part a

pub record IsLend (windows : ℕ → Bool) (sent : ℕ → Queue) (parts now : StructureSets) (n : ℕ) : Type 0 where
  pub beside : (k : ℕ) → k ≢ n → now k ≡ parts k
  pub still : (a : ℕ) (s : Structure) → parts n a ≡ Some s → now n a ≡ Some s
  pub buffers : (a : ℕ) (t : Qtd) → parts n a ≡ Some (Element t) → now n (buffer_name t) ≡ parts n (buffer_name t)
  pub elements : windows n ≡ true → (a : ℕ) (t : Qtd) → now n a ≡ Some (Element t) → (parts n a ≡ Some (Element t)) ⊎ IsAside (sent n) (parts n) a t

-- ---- a request is published

pub record IsNextRequest (v : Queue) (r : Request) (x : Places) (part : Structures) : Type 0 where
  pub request : IsRequest r
  pub apart : AreApart x
  pub others : (i : ℕ) → i < v.count → AreOthers (v.places i) x
  pub behind : (i : ℕ) → suc i ≡ v.count → (v.places i).behind ≡ Some x.setup
  pub fresh : AreFresh v.endpoint r x part Setup
  pub buffer : has_data r ≡ true → (t : Qtd) → part x.data_at ≡ Some (Element t) → HasBuffer part t t.token.total
  pub tail : (a : ℕ) → x.behind ≡ Some a → IsIdle part a

abbrev pub with_request : Queue → Request → Places → Queue
with_request v r x = record v {
  count = suc v.count;
  requests = λ i. if i == v.count then r else v.requests i;
  places = λ i. if i == v.count then x else v.places i;
}

abbrev pub without_first : Queue → Queue
without_first v = record v { count = v.count - 1; requests = λ i. v.requests (suc i); places = λ i. v.places (suc i) }

abbrev pub new_sent : Queue → Request → Places → Sent
new_sent v r x = record { endpoint = v.endpoint; request = r; places = x }

abbrev pub sent_with : (ℕ → Queue) → ℕ → Request → Places → ℕ → Queue
sent_with sent n r x k = if k == n then with_request (sent k) r x else sent k

pub record IsPublished {W : Type 0} (device : W → ℕ → ℕ → Option Device) (member windows : ℕ → Bool) (sent : ℕ → Queue) (lines : ℕ → Lines)
    (now : StructureSets) (hand : Hand) (wire : W) (n : ℕ) (r : Request) (x : Places) : Type 0 where
  pub sent_are : AreSent member windows (sent_with sent n r x)
  pub windows_are : AreWindows device member windows (sent_with sent n r x) lines now hand wire
  pub count : (sent_with sent n r x n).count ≡ suc (sent n).count
  pub is : sent_at (sent_with sent n r x n) (sent n).count ≡ new_sent (sent n) r x
  pub behind : IsBehind (new_sent (sent n) r x) hand now n
  pub others : (k i : ℕ) → i < (sent k).count → sent_at (sent_with sent n r x k) i ≡ sent_at (sent k) i

-- ---- the laws

abbrev pub LendKeepsWindows : {W : Type 0} → (W → ℕ → ℕ → Option Device) → Type 0
LendKeepsWindows {W} device = (member windows : ℕ → Bool) (sent : ℕ → Queue) (lines : ℕ → Lines) (parts now : StructureSets) (hand : Hand) (wire : W) (n : ℕ) → IsLend windows sent parts now n
    → AreWindows device member windows sent lines parts hand wire → AreWindows device member windows sent lines now hand wire

-- a store over a qTD that is no request's, such as the tail, and that isn't active after it
abbrev pub IdleStoreKeepsWindows : {W : Type 0} → (W → ℕ → ℕ → Option Device) → Type 0
IdleStoreKeepsWindows {W} device = (member windows : ℕ → Bool) (sent : ℕ → Queue) (lines : ℕ → Lines) (parts : StructureSets) (hand : Hand) (wire : W) (n a : ℕ) (old new : Qtd)
    → parts n a ≡ Some (Element old) → new.token.active ≡ false → (windows n ≡ true → (i : ℕ) (s : Stage) → i < (sent n).count → place_at ((sent n).places i) s ≢ a)
    → AreWindows device member windows sent lines parts hand wire → AreWindows device member windows sent lines (put parts n a (Element new)) hand wire

-- the store by which the tail is the SETUP of the request
abbrev pub LastStoreKeepsWindows : {W : Type 0} → (W → ℕ → ℕ → Option Device) → Type 0
LastStoreKeepsWindows {W} device = (member windows : ℕ → Bool) (sent : ℕ → Queue) (lines : ℕ → Lines) (parts : StructureSets)
    (hand : Hand) (wire : W) (n : ℕ) (r : Request) (x : Places) (new : Qtd)
    → AreSent member windows sent → windows n ≡ true → IsNextRequest (sent n) r x (put parts n x.setup (Element new) n)
    → AreWindows device member windows sent lines parts hand wire → IsPublished device member windows sent lines (put parts n x.setup (Element new)) hand wire n r x
