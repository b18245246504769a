-- The lists of a driver, as its queues tell them: where one thing is changed, and where those of one endpoint are looked for.
use Rattle.std.proofs.Common.{◌≡◌, ◌≢◌, ℕ, zero, suc, ◌+◌, ◌-◌, ◌==◌, Bool, true, false, not, ◌||◌, ◌&&◌, cond, nat_lt, List, [], ◌∷◌, length, map, set, drop, slice_get, Option, Some, None, option_map, ap, sym, ◌∙◌, ⊎_elim, refl}
use Rattle.std.proofs.lemmas.Bool.{cases_eq, cases_Bool, false≢true}
use Rattle.std.proofs.lemmas.List.{map-set, drop-map, length-set}
use Rattle.std.proofs.lemmas.Option.{slice_get-map, same_Some}
use Rattle.std.specs.List.{position, position_or_len}
use Rattle.law_driver.proofs.Common.{others_wait}
use Rattle.law_driver.proofs.Common.{of_queue, get_queued}
use Rattle.law_common.proofs.Numbers.{other_number}
use Rattle.law_common.proofs.Lists.{set_here, set_there}
use Rattle.usb_base.specs.declared.endpoints.EpDesc.{EpDesc}
use Rattle.drv_table.specs.declared.content.Endpoint.{Endpoint}
use Rattle.drv_table.specs.declared.content.Transfer.{Transfer}
use Rattle.drv_table.specs.declared.content.Sort.{Sort}
use Rattle.drv_table.specs.declared.content.Command.{Command}
use Rattle.drv_table.specs.declared.content.Command.TheVariants as unfinished
use Rattle.drv_table.specs.DriverContent.{DriverContent, waits_for, next_after}
use Rattle.drv_table.specs.Kinds.{is_iso}
use Rattle.drv_table.specs.Releases.{is_held_of, let_go}
use Rattle.claims_driver.specs.Owners.{is_descriptor}
use Rattle.law_driver.specs.chained_transfers.Bulk.{sort_by}
use Rattle.law_driver.specs.queued_drivers.Queued.{with_queue, queued_endpoint, sort_of_queue, queued_transfer, queue_of, queued_command}

-- ---- what each tells

-- the descriptor as it is told
abbrev pub returned_descriptor : List Endpoint → Transfer → Transfer
returned_descriptor xs y = record y { sort = sort_of_queue (slice_get xs y.endpoint); reported = true; released = true }

pub transfer_told : (xs : List Endpoint) (y : Transfer) → is_descriptor y.sort ≡ false → queued_transfer xs y ≡ y
transfer_told xs y moves = ap (λ (b : Bool). cond b (returned_descriptor xs y) y) moves

pub descriptor_told : (xs : List Endpoint) (y : Transfer) → is_descriptor y.sort ≡ true → queued_transfer xs y ≡ returned_descriptor xs y
descriptor_told xs y is = ap (λ (b : Bool). cond b (returned_descriptor xs y) y) is

pub queue_at : (xs : List Endpoint) (e : ℕ) (x : Endpoint) → slice_get xs e ≡ Some x → is_iso x.desc.kind ≡ false → slice_get (map queued_endpoint xs) e ≡ Some (with_queue x)
queue_at xs e x here queue = get_queued xs e x here ∙ ap (λ (z : Endpoint). Some z) (of_queue x queue)

pub transfer_at : (xs : List Endpoint) (ts : List Transfer) (t : ℕ) (y : Transfer) → slice_get ts t ≡ Some y → slice_get (map (queued_transfer xs) ts) t ≡ Some (queued_transfer xs y)
transfer_at xs ts t y there = slice_get-map (queued_transfer xs) ts t ∙ ap (option_map (queued_transfer xs)) there

pub moves_at : (xs : List Endpoint) (ts : List Transfer) (t : ℕ) (y : Transfer) → slice_get ts t ≡ Some y → is_descriptor y.sort ≡ false → slice_get (map (queued_transfer xs) ts) t ≡ Some y
moves_at xs ts t y there moves = transfer_at xs ts t y there ∙ ap (λ (z : Transfer). Some z) (transfer_told xs y moves)

-- what stands in a list that was mapped
pub record IsMapped {X Y : Type 0} (f : X → Y) (xs : List X) (i : ℕ) (z : Y) : Type 0 where
  pub one : X
  pub here : slice_get xs i ≡ Some one
  pub is : f one ≡ z

mapped_by : {X Y : Type 0} (f : X → Y) (xs : List X) (i : ℕ) (o : Option X) (z : Y) → slice_get xs i ≡ o → option_map f o ≡ Some z → IsMapped f xs i z
mapped_by f xs i None z here there = absurd (cc)
mapped_by f xs i (Some x) z here there = record { one = x; here = here; is = same_Some (f x) z there }

pub mapped : {X Y : Type 0} (f : X → Y) (xs : List X) (i : ℕ) (z : Y) → slice_get (map f xs) i ≡ Some z → IsMapped f xs i z
mapped f xs i z there = mapped_by f xs i (slice_get xs i) z refl (sym (slice_get-map f xs i) ∙ there)

-- ---- one endpoint is changed

sorts_stay : (xs : List Endpoint) (e : ℕ) (x z : Endpoint) → slice_get xs e ≡ Some x → z.desc ≡ x.desc → (k : ℕ) → sort_of_queue (slice_get (set xs e z) k) ≡ sort_of_queue (slice_get xs k)
sorts_stay [] e x z here same k = absurd (cc)
sorts_stay (w ∷ xs) zero x z here same zero = ap (λ (d : EpDesc). sort_by d.name.way) (same ∙ ap (λ (v : Endpoint). v.desc) (sym (same_Some w x here)))
sorts_stay (w ∷ xs) zero x z here same (suc k) = refl
sorts_stay (w ∷ xs) (suc e) x z here same zero = refl
sorts_stay (w ∷ xs) (suc e) x z here same (suc k) = sorts_stay xs e x z here same k

pub told_by_sorts : (xs ys : List Endpoint) → ((k : ℕ) → sort_of_queue (slice_get ys k) ≡ sort_of_queue (slice_get xs k)) → (ts : List Transfer) → map (queued_transfer ys) ts ≡ map (queued_transfer xs) ts
told_by_sorts xs ys same [] = refl
told_by_sorts xs ys same (t ∷ ts) =
    ap (λ (s : Sort). cond (is_descriptor t.sort) (record t { sort = s; reported = true; released = true }) t ∷ map (queued_transfer ys) ts) (same t.endpoint)
    ∙ ap (λ (us : List Transfer). queued_transfer xs t ∷ us) (told_by_sorts xs ys same ts)

pub transfers_stay : (xs : List Endpoint) (e : ℕ) (x z : Endpoint) → slice_get xs e ≡ Some x → z.desc ≡ x.desc → (ts : List Transfer) → map (queued_transfer (set xs e z)) ts ≡ map (queued_transfer xs) ts
transfers_stay xs e x z here same = told_by_sorts xs (set xs e z) (sorts_stay xs e x z here same)

pub endpoints_set : (xs : List Endpoint) (e : ℕ) (x z w : Endpoint) → slice_get xs e ≡ Some x → queued_endpoint z ≡ w → map queued_endpoint (set xs e z) ≡ set (map queued_endpoint xs) e w
endpoints_set xs e x z w here is = map-set queued_endpoint xs e z ∙ ap (λ (v : Endpoint). set (map queued_endpoint xs) e v) is

-- the unfinished command
queues_stay : (xs : List Endpoint) (e : ℕ) (x z : Endpoint) → slice_get xs e ≡ Some x → z.queue ≡ x.queue → (k : ℕ) → queue_of (slice_get (set xs e z) k) ≡ queue_of (slice_get xs k)
queues_stay [] e x z here same k = absurd (cc)
queues_stay (w ∷ xs) zero x z here same zero = same ∙ ap (λ (v : Endpoint). v.queue) (sym (same_Some w x here))
queues_stay (w ∷ xs) zero x z here same (suc k) = refl
queues_stay (w ∷ xs) (suc e) x z here same zero = refl
queues_stay (w ∷ xs) (suc e) x z here same (suc k) = queues_stay xs e x z here same k

pub command_stays : (xs : List Endpoint) (e : ℕ) (x z : Endpoint) → slice_get xs e ≡ Some x → z.queue ≡ x.queue → (c : Option Command) → queued_command (set xs e z) c ≡ queued_command xs c
command_stays xs e x z here same (Some unfinished.Chain) =
    ap (λ (n : ℕ). Some (unfinished.Open (queue_of (slice_get (set xs e z) (n - 1))))) (length-set xs e z)
    ∙ ap (λ (q : ℕ). Some (unfinished.Open q)) (queues_stay xs e x z here same (length xs - 1))
command_stays xs e x z here same _ = refl

abbrev pub with_told : DriverContent → List Endpoint → List Transfer → Option Command → DriverContent
with_told f xs ts c = record f { endpoints = xs; transfers = ts; command = c }

-- an endpoint is changed, and some transfers
pub lists_told : (f : DriverContent) (xs ys : List Endpoint) (ts us : List Transfer) (c k : Option Command) → ys ≡ xs → us ≡ ts → k ≡ c → with_told f ys us k ≡ with_told f xs ts c
lists_told f xs ys ts us c k one two three = ap (λ (zs : List Endpoint). with_told f zs us k) one ∙ ap (λ (vs : List Transfer). with_told f xs vs k) two ∙ ap (λ (j : Option Command). with_told f xs ts j) three

pub map_same : {X Y : Type 0} (f g : X → Y) (xs : List X) → ((i : ℕ) (x : X) → slice_get xs i ≡ Some x → g x ≡ f x) → map g xs ≡ map f xs
map_same f g [] same = refl
map_same f g (x ∷ xs) same = ap (λ y. y ∷ map g xs) (same 0 x refl) ∙ ap (λ ys. f x ∷ ys) (map_same f g xs (λ i z here. same (suc i) z here))

pub map_both : {X Y Z : Type 0} (f : Y → Z) (g : X → Y) (xs : List X) → map f (map g xs) ≡ map (λ x. f (g x)) xs
map_both f g [] = refl
map_both f g (x ∷ xs) = ap (λ ys. f (g x) ∷ ys) (map_both f g xs)

-- ---- the transfers of one endpoint with a queue

abbrev pub HasNoDescriptors : ℕ → List Transfer → Type 0
HasNoDescriptors e ts = (k : ℕ) (y : Transfer) → slice_get ts k ≡ Some y → y.endpoint ≡ e → is_descriptor y.sort ≡ false

abbrev pub IsNoDescriptorOf : ℕ → Transfer → Type 0
IsNoDescriptorOf e y = y.endpoint ≡ e → is_descriptor y.sort ≡ false

-- what tells the same of all transfers but those of the endpoint
pub told_test : {X : Type 0} (xs : List Endpoint) (e : ℕ) (y : Transfer) (test : Transfer → X) (other : X) → ((z : Transfer) → z.endpoint ≢ e → test z ≡ other) → IsNoDescriptorOf e y → test (queued_transfer xs y) ≡ test y
told_test xs e y test other others none = ⊎_elim
    (λ (is : is_descriptor y.sort ≡ true).
    let differs : y.endpoint ≢ e = λ at. false≢true (sym (none at) ∙ is) in
    ap test (descriptor_told xs y is) ∙ others (returned_descriptor xs y) differs ∙ sym (others y differs))
    (λ (moves : is_descriptor y.sort ≡ false). ap test (transfer_told xs y moves)) (cases_Bool (is_descriptor y.sort))

pub others_held : (e : ℕ) (z : Transfer) → z.endpoint ≢ e → is_held_of e z ≡ false
others_held e z differs = ap (λ (b : Bool). b && not z.released) (other_number z.endpoint e differs)

pub waits_told : (xs : List Endpoint) (e : ℕ) (y : Transfer) → IsNoDescriptorOf e y → waits_for e (queued_transfer xs y) ≡ waits_for e y
waits_told xs e y none = told_test xs e y (waits_for e) false (others_wait e) none

pub held_told : (xs : List Endpoint) (e : ℕ) (y : Transfer) → IsNoDescriptorOf e y → is_held_of e (queued_transfer xs y) ≡ is_held_of e y
held_told xs e y none = told_test xs e y (is_held_of e) false (others_held e) none

same_length : {X Y : Type 0} (f : X → Y) (xs : List X) → length (map f xs) ≡ length xs
same_length f [] = refl
same_length f (x ∷ xs) = ap suc (same_length f xs)

pub transfers_many : (xs : List Endpoint) (ts : List Transfer) → length (map (queued_transfer xs) ts) ≡ length ts
transfers_many xs ts = same_length (queued_transfer xs) ts

pub endpoints_many : (xs : List Endpoint) → length (map queued_endpoint xs) ≡ length xs
endpoints_many xs = same_length queued_endpoint xs

first_told : (xs : List Endpoint) (e : ℕ) (ts : List Transfer) → HasNoDescriptors e ts → position_or_len (waits_for e) (map (queued_transfer xs) ts) ≡ position_or_len (waits_for e) ts
first_told xs e [] none = refl
first_told xs e (t ∷ ts) none =
    ap (λ (b : Bool). cond (not b) (1 + position_or_len (waits_for e) (map (queued_transfer xs) ts)) 0) (waits_told xs e t (none 0 t refl))
    ∙ ap (λ (n : ℕ). cond (not (waits_for e t)) (1 + n) 0) (first_told xs e ts (λ k y here. none (suc k) y here))

drop_none : (e k : ℕ) (ts : List Transfer) → HasNoDescriptors e ts → HasNoDescriptors e (drop k ts)
drop_none e zero ts none = none
drop_none e (suc k) [] none = λ i y here. absurd (cc)
drop_none e (suc k) (t ∷ ts) none = drop_none e k ts (λ i y here. none (suc i) y here)

pub next_told : (xs : List Endpoint) (e t : ℕ) (ts : List Transfer) → HasNoDescriptors e ts → next_after (map (queued_transfer xs) ts) e t ≡ next_after ts e t
next_told xs e t ts none = ap (λ (us : List Transfer). option_map (λ i. suc t + i) (position (waits_for e) us)) (drop-map (queued_transfer xs) (suc t) ts) ∙ at (drop (suc t) ts) (drop_none e (suc t) ts none)
  where
    at : (us : List Transfer) → HasNoDescriptors e us → option_map (λ i. suc t + i) (position (waits_for e) (map (queued_transfer xs) us)) ≡ option_map (λ i. suc t + i) (position (waits_for e) us)
    at us only =
        ap (λ (n : ℕ). option_map (λ i. suc t + i) (cond (nat_lt n (length (map (queued_transfer xs) us))) (Some n) None)) (first_told xs e us only)
        ∙ ap (λ (n : ℕ). option_map (λ i. suc t + i) (cond (nat_lt (position_or_len (waits_for e) us) n) (Some (position_or_len (waits_for e) us)) None)) (transfers_many xs us)

-- one transfer of the endpoint is changed
pub none_set : (e t : ℕ) (y z : Transfer) (ts : List Transfer) → slice_get ts t ≡ Some y → z.endpoint ≡ y.endpoint → z.sort ≡ y.sort → HasNoDescriptors e ts → HasNoDescriptors e (set ts t z)
none_set e t y z ts there at same none k w here is = ⊎_elim
    (λ (own : k ≡ t).
    let w_is : w ≡ z = same_Some w z (sym here ∙ ap (slice_get (set ts t z)) own ∙ set_here ts t y z there) in
    ap (λ (v : Transfer). is_descriptor v.sort) w_is ∙ ap is_descriptor same ∙ none t y there (sym at ∙ ap (λ (v : Transfer). v.endpoint) (sym w_is) ∙ is))
    (λ (other : k ≢ t). none k w (sym (set_there ts t k z other) ∙ here) is) (cases_eq k t)

-- all of them are let go
pub go_told : (xs : List Endpoint) (e : ℕ) (told : Bool) (y : Transfer) → IsNoDescriptorOf e y → queued_transfer xs (let_go e told y) ≡ let_go e told (queued_transfer xs y)
go_told xs e told y none = ⊎_elim
    (λ (is : is_descriptor y.sort ≡ true).
    let differs : (y.endpoint == e) ≡ false = other_number y.endpoint e (λ at. false≢true (sym (none at) ∙ is)) in
    let same : (z : Transfer) → z.endpoint ≡ y.endpoint → let_go e told z ≡ z = λ z at. ap (λ (b : Bool). cond b (record z { reported = z.reported || told; released = true }) z) (ap (λ (n : ℕ). n == e) at ∙ differs) in
    ap (queued_transfer xs) (same y refl) ∙ descriptor_told xs y is ∙ sym (ap (let_go e told) (descriptor_told xs y is) ∙ same (returned_descriptor xs y) refl))
    (λ (moves : is_descriptor y.sort ≡ false). by (y.endpoint == e) moves ∙ sym (ap (let_go e told) (transfer_told xs y moves))) (cases_Bool (is_descriptor y.sort))
  where
    by : (b : Bool) → is_descriptor y.sort ≡ false → queued_transfer xs (cond b (record y { reported = y.reported || told; released = true }) y) ≡ cond b (record y { reported = y.reported || told; released = true }) y
    by true moves = transfer_told xs (record y { reported = y.reported || told; released = true }) moves
    by false moves = transfer_told xs y moves

pub all_go_told : (xs : List Endpoint) (e : ℕ) (told : Bool) (ts : List Transfer) → HasNoDescriptors e ts → map (queued_transfer xs) (map (let_go e told) ts) ≡ map (let_go e told) (map (queued_transfer xs) ts)
all_go_told xs e told [] none = refl
all_go_told xs e told (t ∷ ts) none =
    ap (λ (y : Transfer). y ∷ map (queued_transfer xs) (map (let_go e told) ts)) (go_told xs e told t (none 0 t refl))
    ∙ ap (λ (us : List Transfer). let_go e told (queued_transfer xs t) ∷ us) (all_go_told xs e told ts (λ k y here. none (suc k) y here))
