-- The windows of a driver's requests, and what its lines tell of them.
use Rattle.std.proofs.Common.{◌≡◌, ℕ, suc, ◌+◌, ◌<◌, ◌==◌, Bool, true, false, if◌then◌else◌, List, [], ◌∷◌, ◌++◌, length, map, drop, slice_get, Some, Result, Ok, Err, ap, refl, sym, subst, ◌∙◌, arith}
use Rattle.std.proofs.lemmas.List.{append_assoc, append-nil, map-append, length-map}
use Rattle.usb_base.specs.declared.commands.Cmd.{Cmd}
use Rattle.usb_base.specs.declared.endpoints.EpName.{EpName}
use Rattle.usb_base.specs.declared.reports.OfferError.{OfferError}
use Rattle.usb_base.specs.declared.reports.Report.{Report}
use Rattle.claims_report.specs.Requests.{Request, Window}
use Rattle.drv_table.specs.DriverContent.{DriverContent}
use Rattle.drv_table.specs.Accepting.{Offered}
use Rattle.drv_table.specs.Offers.{offered}
use Rattle.drv_table.specs.Rows.{driver_row, after_driver_row}
use Rattle.law_queues.specs.told_endpoints.Telling.{lines_in}
use Rattle.bus_world.specs.World.{World, name_in, refused_line, commanded_by}
use Rattle.bus_world.proofs.Offering.{Lines, offer_lines}
use Rattle.law_world.proofs.lemmas.streams.lemmas.put_laws.Stays.{owner_at, owners_in, event_stays}
use Rattle.law_world.proofs.lemmas.streams.lemmas.put_laws.TakenAccepted.{IfAccepted}
use Rattle.claims_world.specs.Requests.{Windows, asks_then, numbers_of, window_at, windows_of}
use Rattle.law_reports.specs.requests.told_requests.Told.{has_cancel, AreToldTo, RequestsAreToldTo}
use Rattle.law_reports.specs.requests.told_requests.Windows.{TransferAddsWindow, EventKeepsWindows, StaysTold, CommandKeepsTold, ActsMayGrow}
use Rattle.law_reports.proofs.lemmas.requests.lemmas.told_requests.Adding.{Adds, opens, asks as asks_one, others, command_asks}
use Rattle.law_reports.proofs.lemmas.requests.lemmas.told_requests.Agreeing.{numbers_in, by_owners, numbers_join, numbers_single, requests_alike}
use Rattle.law_reports.proofs.lemmas.requests.lemmas.told_requests.Asking.{then_owned}
use Rattle.law_reports.proofs.lemmas.requests.lemmas.told_requests.Driver.{refusal_stays}
use Rattle.law_reports.proofs.lemmas.requests.lemmas.told_requests.Windows.{windows_have_front, windows_grow}

-- ---- the windows, by the endpoints of transfers

abbrev windows_in : (ℕ → Request) → Windows → ℕ → List ℕ → List Window
windows_in asks v e owners = map (window_at asks v) (numbers_in e 0 owners)

of_owners : (d : DriverContent) (asks : ℕ → Request) (v : Windows) (e : ℕ) → windows_of d asks v e ≡ windows_in asks v e (owners_in d)
of_owners d asks v e = ap (map (window_at asks v)) (by_owners e 0 d.transfers)

-- transfers more have windows behind the others
windows_join : (asks now : ℕ → Request) (v : Windows) (e : ℕ) (owners more : List ℕ) → ((t : ℕ) → t < length owners → now t ≡ asks t)
    → windows_in now v e (owners ++ more) ≡ windows_in asks v e owners ++ map (window_at now v) (numbers_in e (0 + length owners) more)
windows_join asks now v e owners more same =
    ap (map (window_at now v)) (numbers_join e 0 owners more) ∙ map-append (window_at now v) (numbers_in e 0 owners) (numbers_in e (0 + length owners) more)
    ∙ ap (λ (ws : List Window). ws ++ map (window_at now v) (numbers_in e (0 + length owners) more))
    (requests_alike (window_at asks v) (window_at now v) e 0 owners (λ t high. ap (λ (r : Request). record { request = r; acts = v.acts t }) (same t (omega (arith, high)))))

one_by : (now : ℕ → Request) (v : Windows) (b : Bool) (n : ℕ) → map (window_at now v) (if b then n ∷ [] else []) ≡ (if b then window_at now v n ∷ [] else [])
one_by now v true n = refl
one_by now v false n = refl

pub transfer_adds_window : TransferAddsWindow
transfer_adds_window d c y asks now v e is same =
    let long = length-map d.transfers owner_at in
    let number : 0 + length (owners_in d) ≡ length d.transfers = omega (arith, long) in
    of_owners c now v e
    ∙ ap (windows_in now v e) (ap (map owner_at) is ∙ map-append owner_at d.transfers (y ∷ []))
    ∙ windows_join asks now v e (owners_in d) (y.endpoint ∷ []) (λ t low. same t (omega (arith, low, long)))
    ∙ ap (λ (ws : List Window). ws ++ map (window_at now v) (numbers_in e (0 + length (owners_in d)) (y.endpoint ∷ []))) (sym (of_owners d asks v e))
    ∙ ap (λ (ns : List ℕ). windows_of d asks v e ++ map (window_at now v) ns) (numbers_single e (0 + length (owners_in d)) y.endpoint)
    ∙ ap (λ (n : ℕ). windows_of d asks v e ++ map (window_at now v) (if y.endpoint == e then n ∷ [] else [])) number
    ∙ ap (λ (ws : List Window). windows_of d asks v e ++ ws) (one_by now v (y.endpoint == e) (length d.transfers))

same_windows : (d c : DriverContent) (asks : ℕ → Request) (v : Windows) (e : ℕ) → owners_in c ≡ owners_in d → windows_of c asks v e ≡ windows_of d asks v e
same_windows d c asks v e same = of_owners c asks v e ∙ ap (windows_in asks v e) same ∙ sym (of_owners d asks v e)

pub event_keeps_windows : EventKeepsWindows
event_keeps_windows p asks v e = same_windows p.driver (after_driver_row (driver_row p) p).driver asks v e (event_stays p).owners

-- ---- a command

record HasMore (before now : List Window) : Type 0 where
  more : List Window
  are : now ≡ before ++ more

module _ (d : DriverContent) (cmd : Cmd) (asks : ℕ → Request) (v : Windows) (e : ℕ) where
  abbrev then_asks : ℕ → Request
  then_asks = asks_then d cmd asks

  owners_more : (c : DriverContent) (more : List ℕ) → owners_in c ≡ owners_in d ++ more → HasMore (windows_of d asks v e) (windows_of c then_asks v e)
  owners_more c more is = record {
    more = map (window_at then_asks v) (numbers_in e (0 + length (owners_in d)) more);
    are = of_owners c then_asks v e ∙ ap (windows_in then_asks v e) is ∙ windows_join asks then_asks v e (owners_in d) more (λ t low. then_owned d cmd asks t low)
        ∙ ap (λ (ws : List Window). ws ++ map (window_at then_asks v) (numbers_in e (0 + length (owners_in d)) more)) (sym (of_owners d asks v e));
  }

  -- none of them is of this endpoint
  pub none_added : (c : DriverContent) (more : List ℕ) → owners_in c ≡ owners_in d ++ more → numbers_in e (0 + length (owners_in d)) more ≡ []
      → windows_of c (asks_then d cmd asks) v e ≡ windows_of d asks v e
  unfolding owners_more
  none_added c more is none =
      (owners_more c more is).are
      ∙ ap (λ (ns : List ℕ). windows_of d asks v e ++ map (window_at (asks_then d cmd asks) v) ns) none
      ∙ append-nil (windows_of d asks v e)

  added_more : (c : DriverContent) → Adds d cmd c → HasMore (windows_of d asks v e) (windows_of c then_asks v e)
  added_more c (opens k) = owners_more c [] (k.owners ∙ sym (append-nil (owners_in d)))
  added_more c (asks_one k) = owners_more c (k.number ∷ []) k.owners
  added_more c (others k) = owners_more c k.more k.owners

  -- a driver with the same lines
  stays_so : (name : EpName) (whole : Request → List ℕ) (left : List Window) (c : DriverContent) → has_cancel (lines_in name d.reports) ≡ false → RequestsAreToldTo d name whole (windows_of d asks v e) left
      → HasMore (windows_of d asks v e) (windows_of c then_asks v e) → c.reports ≡ d.reports → c.store ≡ d.store → StaysTold name whole (windows_of d asks v e) (windows_of c then_asks v e) left c
  stays_so name whole left c none k h reports store =
      let f = windows_have_front d.reports d.store name whole (windows_of d asks v e) left none k in
      let now : f.0 ++ (left ++ h.more) ≡ windows_of c then_asks v e = sym (append_assoc f.0 left h.more) ∙ ap (λ (ws : List Window). ws ++ h.more) (sym f.1) ∙ sym h.are in
      record {
        more = h.more;
        windows = h.are;
        told =
            subst (λ (rs : List Report). AreToldTo rs c.store name whole (windows_of c then_asks v e) (left ++ h.more)) (sym reports)
            (subst (λ (bs : List ℕ). AreToldTo d.reports bs name whole (windows_of c then_asks v e) (left ++ h.more)) (sym store)
            (subst (λ (ws : List Window). AreToldTo d.reports d.store name whole ws (left ++ h.more)) now
            (windows_grow d.reports d.store name whole f.0 left (left ++ h.more) none (subst (λ (ws : List Window). AreToldTo d.reports d.store name whole ws left) f.1 k))));
      }

module _ (w : World) (n : ℕ) (cmd : Cmd) (asks : ℕ → Request) (v : Windows) (e : ℕ) (name : EpName) (whole : Request → List ℕ) (left : List Window) (none : has_cancel (lines_in name w.driver.reports) ≡ false)
    (k : RequestsAreToldTo w.driver name whole (windows_of w.driver asks v e) left) where
  refused_told : (other : EpName) (why : OfferError)
      → StaysTold name whole (windows_of w.driver asks v e) (windows_of (refused_line w.driver n other why) (asks_then w.driver cmd asks) v e) left (refused_line w.driver n other why)
  refused_told other why =
      let h : HasMore (windows_of w.driver asks v e) (windows_of w.driver (asks_then w.driver cmd asks) v e) = owners_more w.driver cmd asks v e w.driver [] (sym (append-nil (owners_in w.driver))) in
      let s = stays_so w.driver cmd asks v e name whole left w.driver none k h refl refl in
      record {
        more = s.more;
        windows = s.windows;
        told = refusal_stays w.driver n other name why whole (windows_of w.driver (asks_then w.driver cmd asks) v e) (left ++ s.more) s.told;
      }

  answered_told : (a : Result Offered OfferError) → IfAccepted (Adds w.driver cmd) a → Lines w.driver a
      → StaysTold name whole (windows_of w.driver asks v e) (windows_of (commanded_by w n (name_in cmd) a).driver (asks_then w.driver cmd asks) v e) left (commanded_by w n (name_in cmd) a).driver
  answered_told (Ok o) adds same = stays_so w.driver cmd asks v e name whole left o.driver none k (added_more w.driver cmd asks v e o.driver adds) same.reports same.store
  answered_told (Err why) adds same = refused_told (name_in cmd) why

pub command_keeps_told : CommandKeepsTold
command_keeps_told w n cmd asks v e name whole left none k =
    answered_told w n cmd asks v e name whole left none k (offered w.driver w.memory cmd) (command_asks w.driver w.memory cmd) (offer_lines w.driver w.memory cmd)

-- ---- acts

same_first : (x y : Window) (xs ys : List Window) → x ∷ xs ≡ y ∷ ys → x ≡ y
same_first x y xs ys e = cc

same_rest : (x y : Window) (xs ys : List Window) → x ∷ xs ≡ y ∷ ys → xs ≡ ys
same_rest x y xs ys e = cc

-- the first windows are the same where their acts are
front_same : (asks : ℕ → Request) (v u : Windows) (ns : List ℕ) (front left : List Window) → map (window_at asks v) ns ≡ front ++ left → ((i t : ℕ) → i < length front → slice_get ns i ≡ Some t → u.acts t ≡ v.acts t)
    → front ++ drop (length front) (map (window_at asks u) ns) ≡ map (window_at asks u) ns
front_same asks v u ns [] left is same = refl
front_same asks v u [] (w ∷ fs) left is same = absurd cc
front_same asks v u (t ∷ ts) (w ∷ fs) left is same =
    let one : w ≡ window_at asks u t = sym (same_first (window_at asks v t) w (map (window_at asks v) ts) (fs ++ left) is) ∙ ap (λ (a : List (List ℕ)). record { request = asks t; acts = a }) (sym (same 0 t (omega arith) refl)) in
    ap (λ (x : Window). x ∷ (fs ++ drop (length fs) (map (window_at asks u) ts))) one
    ∙ ap (λ (xs : List Window). window_at asks u t ∷ xs)
    (front_same asks v u ts fs left (same_rest (window_at asks v t) w (map (window_at asks v) ts) (fs ++ left) is) (λ i s low here. same (suc i) s (omega (arith, low)) here))

pub acts_may_grow : ActsMayGrow
acts_may_grow d asks v u e name whole left none k same =
    let f = windows_have_front d.reports d.store name whole (windows_of d asks v e) left none k in
    let n = length (lines_in name d.reports) in
    let now : f.0 ++ drop (length f.0) (windows_of d asks u e) ≡ windows_of d asks u e = front_same asks v u (numbers_of d e) f.0 left f.1 (λ i t low here. same i t (subst (λ (m : ℕ). i < m) f.2 low) here) in
    subst (λ (m : ℕ). RequestsAreToldTo d name whole (windows_of d asks u e) (drop m (windows_of d asks u e))) f.2
    (subst (λ (ws : List Window). AreToldTo d.reports d.store name whole ws (drop (length f.0) (windows_of d asks u e))) now
    (windows_grow d.reports d.store name whole f.0 left (drop (length f.0) (windows_of d asks u e)) none (subst (λ (ws : List Window). AreToldTo d.reports d.store name whole ws left) f.1 k)))
