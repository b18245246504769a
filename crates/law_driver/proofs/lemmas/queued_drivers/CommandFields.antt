-- What the endpoints, the transfers and the names of a driver are, as its queues tell them.
use Rattle.std.proofs.Common.{◌≡◌, ◌≢◌, ℕ, zero, suc, ◌<◌, Bool, true, false, not, cond, nat_lt, List, [], ◌∷◌, ◌++◌, length, set, slice_get, Some, None, ap, ap₂, sym, ◌∙◌, ⊎_elim, refl, arith, length-append}
use Rattle.std.specs.Prelude.{map, position, ◌-◌, ◌+◌}
use Rattle.std.specs.List.{prefix_len}
use Rattle.std.proofs.lemmas.Bool.{cases_eq}
use Rattle.std.proofs.lemmas.List.{length-map}
use Rattle.law_common.proofs.Lists.{set_here, set_there}
use Rattle.usb_base.specs.declared.endpoints.EpDesc.{EpDesc}
use Rattle.usb_base.specs.declared.endpoints.EpName.{EpName}
use Rattle.usb_base.specs.declared.packets.Way.{Way}
use Rattle.usb_base.specs.declared.packets.Way.TheVariants as ways
use Rattle.drv_table.specs.declared.content.Endpoint.{Endpoint}
use Rattle.drv_table.specs.declared.content.Transfer.{Transfer}
use Rattle.drv_table.specs.declared.content.Sort.{Sort}
use Rattle.drv_table.specs.DriverContent.{DriverContent, is_same_name, endpoint_of}
use Rattle.drv_table.specs.Kinds.{is_iso}
use Rattle.claims_driver.specs.Owners.{is_descriptor}
use Rattle.law_driver.specs.AsynchronousScripts.{IsAsynchronous, IsKindOf}
use Rattle.law_driver.specs.queued_drivers.Queued.{queued_kind, queued_desc, without_queue, with_queue, queued_endpoint, sort_of_queue, queued_transfer, queued}

-- ---- an endpoint

pub desc_same : (x : Endpoint) → (queued_endpoint x).desc ≡ queued_desc x.desc
desc_same x = by (is_iso x.desc.kind)
  where
    by : (b : Bool) → (cond b (without_queue x) (with_queue x)).desc ≡ queued_desc x.desc
    by true = refl
    by false = refl

pub name_same : (x : Endpoint) → (queued_endpoint x).desc.name ≡ x.desc.name
name_same x = ap (λ (k : EpDesc). k.name) (desc_same x)

pub kind_of_way : (way : Way) → IsKindOf way (queued_kind way)
kind_of_way ways.In = refl
kind_of_way _ = refl

pub desc_asynchronous : (x : EpDesc) → IsAsynchronous (queued_desc x)
desc_asynchronous x = record { kind = kind_of_way x.name.way; speed = refl }

-- ---- lists

pub push_get : {X : Type 0} (xs ys : List X) (n : ℕ) → n < length xs → slice_get (xs ++ ys) n ≡ slice_get xs n
push_get [] ys n low = absurd (omega arith)
push_get (x ∷ xs) ys zero low = refl
push_get (x ∷ xs) ys (suc n) low = push_get xs ys n (omega arith)

pub last_get : {X : Type 0} (xs : List X) (x : X) → slice_get (xs ++ x ∷ []) (length (xs ++ x ∷ []) - 1) ≡ Some x
last_get xs x =
    let n = length-append xs (x ∷ []) in
    let m : length (xs ++ x ∷ []) - 1 ≡ length xs = omega (arith, n) in
    ap (slice_get (xs ++ x ∷ [])) m ∙ at xs
  where
    at : (ys : List _) → slice_get (ys ++ x ∷ []) (length ys) ≡ Some x
    at [] = refl
    at (y ∷ ys) = at ys

prefix_same : {X Y : Type 0} (f : X → Y) (p : Y → Bool) (q : X → Bool) → ((x : X) → p (f x) ≡ q x) → (xs : List X) → prefix_len p (map f xs) ≡ prefix_len q xs
prefix_same f p q same [] = refl
prefix_same f p q same (x ∷ xs) = ap₂ (λ (b : Bool) (n : ℕ). cond b (1 + n) 0) (same x) (prefix_same f p q same xs)

position_same : {X Y : Type 0} (f : X → Y) (p : Y → Bool) (q : X → Bool) → ((x : X) → p (f x) ≡ q x) → (xs : List X) → position p (map f xs) ≡ position q xs
position_same f p q same xs =
    ap₂ (λ (n k : ℕ). cond (nat_lt n k) (Some n) None) (prefix_same f (λ y. not (p y)) (λ x. not (q x)) (λ x. ap not (same x)) xs) (length-map xs f)

-- ---- names and endpoints

pub named_same : (d : DriverContent) (name : EpName) → endpoint_of (queued d) name ≡ endpoint_of d name
named_same d name = position_same queued_endpoint _ (λ (x : Endpoint). is_same_name x.desc.name name) (λ x. ap (λ (n : EpName). is_same_name n name) (name_same x)) d.endpoints

-- ---- transfers

abbrev pub SameSorts : List Endpoint → List Endpoint → Transfer → Type 0
SameSorts xs zs y = sort_of_queue (slice_get zs y.endpoint) ≡ sort_of_queue (slice_get xs y.endpoint)

pub transfers_same : (xs zs : List Endpoint) (ts : List Transfer) → ((t : ℕ) (y : Transfer) → slice_get ts t ≡ Some y → SameSorts xs zs y) → map (queued_transfer zs) ts ≡ map (queued_transfer xs) ts
transfers_same xs zs [] same = refl
transfers_same xs zs (y ∷ ts) same =
    ap₂ (λ (z : Transfer) (rest : List Transfer). z ∷ rest)
    (ap (λ (s : Sort). cond (is_descriptor y.sort) (record y { sort = s; reported = true; released = true }) y) (same 0 y refl))
    (transfers_same xs zs ts (λ t z here. same (suc t) z here))

-- an endpoint more, and one that keeps its way
pub sorts_pushed : (xs : List Endpoint) (x : Endpoint) (y : Transfer) → y.endpoint < length xs → SameSorts xs (xs ++ x ∷ []) y
sorts_pushed xs x y low = ap sort_of_queue (push_get xs (x ∷ []) y.endpoint low)

pub sorts_set : (xs : List Endpoint) (e : ℕ) (x z : Endpoint) (y : Transfer) → slice_get xs e ≡ Some x → z.desc ≡ x.desc → SameSorts xs (set xs e z) y
sorts_set xs e x z y here same = ⊎_elim
    (λ (own : y.endpoint ≡ e).
    ap (λ (i : ℕ). sort_of_queue (slice_get (set xs e z) i)) own ∙ ap sort_of_queue (set_here xs e x z here)
    ∙ ap (λ (k : EpDesc). sort_of_queue (Some (record z { desc = k }))) same
    ∙ sym (ap (λ (i : ℕ). sort_of_queue (slice_get xs i)) own ∙ ap sort_of_queue here))
    (λ (other : y.endpoint ≢ e). ap sort_of_queue (set_there xs e y.endpoint z other)) (cases_eq y.endpoint e)

pub transfers_set : (d : DriverContent) (e : ℕ) (x z : Endpoint) → slice_get d.endpoints e ≡ Some x → z.desc ≡ x.desc → map (queued_transfer (set d.endpoints e z)) d.transfers ≡ map (queued_transfer d.endpoints) d.transfers
transfers_set d e x z here same = transfers_same d.endpoints (set d.endpoints e z) d.transfers (λ t y there. sorts_set d.endpoints e x z y here same)

pub transfers_pushed : (d : DriverContent) (x : Endpoint) → ((t : ℕ) (y : Transfer) → slice_get d.transfers t ≡ Some y → y.endpoint < length d.endpoints) → map (queued_transfer (d.endpoints ++ x ∷ [])) d.transfers ≡ map (queued_transfer d.endpoints) d.transfers
transfers_pushed d x within = transfers_same d.endpoints (d.endpoints ++ x ∷ []) d.transfers (λ t y there. sorts_pushed d.endpoints x y (within t y there))
