-- The work of hubs, one after the other, over the bus below each.
use Rattle.std.proofs.Common.{◌≡◌, ℕ, zero, suc, ◌+◌, List, [], ◌∷◌, ◌++◌, take, drop, length, slice_get, get_or, ◌≤◌, ◌<◌, arith, Option, Some, None, refl, ap, sym, subst, ◌∙◌}
use Rattle.std.proofs.Math.ListN.{set}
use Rattle.std.proofs.lemmas.Option.{none-some, same_Some}
use Rattle.usb_base.specs.declared.packets.Ask.{Ask}
use Rattle.usb_base.specs.declared.packets.Reply.{Reply}
use Rattle.hub_class.specs.HubContent.{HubContent}
use Rattle.hub_class.specs.Translating.{HubWorks}
use Rattle.hub_class.proofs.Microframe.{work_told, work_keeps}
use Rattle.bus_wire.specs.declared.asked.Asked.{Asked}
use Rattle.bus_wire.specs.Fixed.{Fixed}
use Rattle.bus_wire.specs.Below.{Below, Floor, below_at, asked_below, below_reply, below_after_at, below_after, hub_worked_at, floor_left, hubs_worked, floor_worked}

-- the relation of the bus below a hub
abbrev pub transacts_below : Below → Ask → List ℕ → Reply → Below → Type 0
transacts_below w ask out reply v = (reply ≡ below_reply w ask out) × (v ≡ below_after w ask out)

fixed_at : (fixed : Fixed) (w : Below) (ask : Ask) (out : List ℕ) (e : Option Asked) → w.fixed ≡ fixed → (below_after_at w ask out e).fixed ≡ fixed
fixed_at fixed w ask out None h = h
fixed_at fixed w ask out (Some e) h = h

pub record IsHubsWork (lines : Fixed) (frindex : ℕ) (h : HubContent) (before : Floor) (new : HubContent) (after : Below) : Type 0 where
  pub hub : new ≡ hub_worked_at lines frindex h before
  pub floor : after.floor ≡ floor_left lines h before
  pub fixed : after.fixed ≡ lines

pub one_worked : (fixed : Fixed) (frindex : ℕ) (h : HubContent) (floor : Floor) (new : HubContent) (after : Below) → HubWorks transacts_below frindex h (below_at fixed h floor) new after → IsHubsWork fixed frindex h floor new after
one_worked fixed frindex h floor new after s =
    let r = work_told transacts_below below_reply below_after (λ w ask out reply v t. t) frindex h (below_at fixed h floor) new after s in
    record {
      hub = r.0;
      floor = ap (λ (w : Below). w.floor) r.1;
      fixed =
          ap (λ (w : Below). w.fixed) r.1
          ∙ work_keeps below_reply below_after (λ w. w.fixed ≡ fixed) (λ w ask out k. fixed_at fixed w ask out (asked_below w ask) k) h (below_at fixed h floor) refl;
    }

-- ---- one hub more

pub record IsOneMore (fixed : Fixed) (frindex : ℕ) (hs : List HubContent) (before : Floor) (i next : ℕ) (h : HubContent) : Type 0 where
  pub floor : floor_worked fixed (take next hs) before ≡ floor_left fixed h (floor_worked fixed (take i hs) before)
  pub hubs : set (take i (hubs_worked fixed frindex hs before) ++ drop i hs) i (hub_worked_at fixed frindex h (floor_worked fixed (take i hs) before)) ≡ take next (hubs_worked fixed frindex hs before) ++ drop next hs

one_after : (fixed : Fixed) (frindex : ℕ) (hs : List HubContent) (floor : Floor) (i : ℕ) (h : HubContent) → slice_get hs i ≡ Some h → IsOneMore fixed frindex hs floor i (suc i) h
one_after fixed frindex [] floor i h e = absurd (none-some h e)
one_after fixed frindex (x ∷ hs) floor zero h e =
    subst (λ (y : HubContent). IsOneMore fixed frindex (x ∷ hs) floor 0 1 y) (same_Some x h e) (record { floor = refl; hubs = refl })
one_after fixed frindex (x ∷ hs) floor (suc i) h e =
    let r = one_after fixed frindex hs (floor_left fixed x floor) i h e in
    record { floor = r.floor; hubs = ap (λ (ys : List HubContent). hub_worked_at fixed frindex x floor ∷ ys) r.hubs }

pub one_more : (fixed : Fixed) (frindex : ℕ) (hs : List HubContent) (floor : Floor) (i : ℕ) (h : HubContent) → slice_get hs i ≡ Some h → IsOneMore fixed frindex hs floor i (i + 1) h
one_more fixed frindex hs floor i h e =
    let next : suc i ≡ i + 1 = omega arith in
    subst (λ n. IsOneMore fixed frindex hs floor i n h) next (one_after fixed frindex hs floor i h e)

-- all of them
pub all_worked : (fixed : Fixed) (frindex : ℕ) (hs : List HubContent) (floor : Floor) (i : ℕ) → length hs ≤ i → take i (hubs_worked fixed frindex hs floor) ++ drop i hs ≡ hubs_worked fixed frindex hs floor
all_worked fixed frindex [] floor zero le = refl
all_worked fixed frindex [] floor (suc i) le = refl
all_worked fixed frindex (x ∷ hs) floor zero le = absurd (omega (arith, le))
all_worked fixed frindex (x ∷ hs) floor (suc i) le =
    ap (λ (ys : List HubContent). hub_worked_at fixed frindex x floor ∷ ys) (all_worked fixed frindex hs (floor_left fixed x floor) i (omega (arith, le)))

-- ---- the loop over them

-- the first i hubs have worked
pub record HaveWorked (fixed : Fixed) (frindex : ℕ) (hs : List HubContent) (before : Floor) (i : ℕ) (now : List HubContent) (below : Below) : Type 0 where
  pub hubs : now ≡ take i (hubs_worked fixed frindex hs before) ++ drop i hs
  pub floor : below.floor ≡ floor_worked fixed (take i hs) before
  pub same : below.fixed ≡ fixed

next_there : (fixed : Fixed) (frindex : ℕ) (hs : List HubContent) (floor : Floor) (i : ℕ) (r : HubContent) → i < length hs → slice_get hs i ≡ Some (get_or (take i (hubs_worked fixed frindex hs floor) ++ drop i hs) i r)
next_there fixed frindex [] floor i r le = absurd (omega (arith, le))
next_there fixed frindex (x ∷ hs) floor zero r le = refl
next_there fixed frindex (x ∷ hs) floor (suc i) r le = next_there fixed frindex hs (floor_left fixed x floor) i r (omega (arith, le))

pub next_worked : (fixed : Fixed) (frindex : ℕ) (hs : List HubContent) (floor : Floor) (i : ℕ) (now : List HubContent) (below : Below) (r new : HubContent) (after : Below) → HaveWorked fixed frindex hs floor i now below → i < length hs → new ≡ hub_worked_at below.fixed frindex (get_or now i r) below.floor → after.floor ≡ floor_left below.fixed (get_or now i r) below.floor → after.fixed ≡ below.fixed → HaveWorked fixed frindex hs floor (i + 1) (set now i new) after
next_worked fixed frindex hs floor i now below r new after have le hub left same =
    let h : HubContent = get_or (take i (hubs_worked fixed frindex hs floor) ++ drop i hs) i r in
    let m = one_more fixed frindex hs floor i h (next_there fixed frindex hs floor i r le) in
    let is : new ≡ hub_worked_at fixed frindex h (floor_worked fixed (take i hs) floor) =
    hub
    ∙ ap (λ (f : Fixed). hub_worked_at f frindex (get_or now i r) below.floor) have.same
    ∙ ap (λ (xs : List HubContent). hub_worked_at fixed frindex (get_or xs i r) below.floor) have.hubs
    ∙ ap (λ (x : Floor). hub_worked_at fixed frindex h x) have.floor in
    record {
      hubs =
          ap (λ (xs : List HubContent). set xs i new) have.hubs
          ∙ ap (λ (x : HubContent). set (take i (hubs_worked fixed frindex hs floor) ++ drop i hs) i x) is
          ∙ m.hubs;
      floor =
          left
          ∙ ap (λ (f : Fixed). floor_left f (get_or now i r) below.floor) have.same
          ∙ ap (λ (xs : List HubContent). floor_left fixed (get_or xs i r) below.floor) have.hubs
          ∙ ap (λ (x : Floor). floor_left fixed h x) have.floor
          ∙ sym m.floor;
      same = same ∙ have.same;
    }
