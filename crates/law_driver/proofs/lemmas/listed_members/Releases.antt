-- Events that give runs back leave the list: what they give back isn't in it.
use Rattle.std.proofs.Common.{◌≡◌, ℕ, ◌==◌, Bool, true, false, not, ◌&&◌, ◌||◌, cond, List, map, set, slice_get, Option, Some, None, option_map, ap, sym, ◌∙◌, refl, arith}
use Rattle.std.specs.Prelude.{option_and_then}
use Rattle.std.proofs.lemmas.List.{length-map}
use Rattle.std.proofs.lemmas.Option.{same_Some, slice_get-map}
use Rattle.law_driver.proofs.Common.{ring_queue}
use Rattle.word_mem.specs.Memory.{Mem}
use Rattle.mem_runs.specs.Book.{Book, holding}
use Rattle.drv_periodic_table.specs.Periodic.{is_periodic}
use Rattle.drv_periodic_table.specs.declared.content.Removed.{Removed}
use Rattle.drv_periodic_table.specs.declared.content.Removed.TheVariants as removed
use Rattle.drv_table.specs.declared.content.Endpoint.{Endpoint}
use Rattle.drv_table.specs.declared.content.Transfer.{Transfer}
use Rattle.drv_table.specs.DriverContent.{DriverContent, waits_for}
use Rattle.drv_table.specs.Parts.{Parts}
use Rattle.drv_table.specs.Kinds.{is_iso}
use Rattle.drv_table.specs.Releases.{after_transfer, freed_by, let_go, is_told, cancel_told, gone_with, after_endpoint, free_endpoint}
use Rattle.drv_table.specs.Removals.{let_go_waiting, let_go_placed, after_descriptor, removed_with, after_placed, free_placed, after_removed}
use Rattle.claims_driver.specs.Owners.{is_descriptor}
use Rattle.claims_driver.specs.Leaving.{IsOrderly}
use Rattle.law_driver.specs.run_owners.Due.{IsRemovalDue}
use Rattle.law_driver.proofs.lemmas.run_owners.Released.{same_by_test, cancel_same}
use Rattle.law_driver.proofs.lemmas.run_owners.Leaves.{first_left, first_removed}
use Rattle.claims_driver.specs.FrameListMembers.{framed_of, framed_in, is_chained, placed_of, placed_in}
use Rattle.law_driver.specs.listed_members.Members.{IsListed}
use Rattle.law_driver.proofs.lemmas.listed_members.Stays.{SameTransfers, SameTables, tables, all_endpoints, all_transfers, endpoint_set, transfer_set}
use Rattle.law_driver.proofs.lemmas.listed_members.Calm.{is_calm, calm_listed, IsQuiet, quiet, both, either, quiet_listed}

-- ---- a transfer, and a descriptor that was unlinked

pub transfer_listed : (p : Parts) (t : ℕ) (o : Option Transfer) → slice_get p.driver.transfers t ≡ o → is_calm p.driver.command ≡ true → IsListed p.driver → IsListed (after_transfer p t o (freed_by p.driver (holding p.driver.book p.memory) o)).driver
transfer_listed p t None there calm old = old
transfer_listed p t (Some y) there calm old =
    quiet_listed p.driver _
    (record {
      periodic = refl;
      endpoints = all_endpoints p.driver.endpoints;
      transfers = transfer_set p.driver.transfers t y (record y { released = true }) there (λ zs. refl);
      room = refl;
      calm = λ c. c;
    }) calm old

descriptor_listed : (p : Parts) (t : ℕ) (o : Option Transfer) → slice_get p.driver.transfers t ≡ o → is_calm p.driver.command ≡ true → IsListed p.driver → IsListed (after_descriptor p t o).driver
descriptor_listed p t None there calm old = old
descriptor_listed p t (Some y) there calm old =
    calm_listed p.driver _
    (tables p.driver _ refl refl refl (all_endpoints p.driver.endpoints) (transfer_set p.driver.transfers t y (record y { released = true }) there (λ zs. refl)) refl) (λ idle. record { work = idle.work; queued = idle.queued }) calm calm old

-- ---- an endpoint of the ring

mapped : (f : Transfer → Transfer) (ts : List Transfer) → ((i : ℕ) (y : Transfer) → slice_get ts i ≡ Some y → (zs : List Endpoint) → placed_of zs (f y) ≡ placed_of zs y) → SameTransfers ts (map f ts)
mapped f ts each = record { placed = λ zs t. ap (option_and_then (placed_of zs)) (slice_get-map f ts t) ∙ at zs t (slice_get ts t) refl; many = length-map ts f }
  where
    at : (zs : List Endpoint) (t : ℕ) (o : Option Transfer) → slice_get ts t ≡ o → option_and_then (placed_of zs) (option_map f o) ≡ option_and_then (placed_of zs) o
    at zs t None there = refl
    at zs t (Some y) there = each t y there zs

let_go_plain : (e : ℕ) (told : Bool) (y : Transfer) (zs : List Endpoint) → (y.endpoint ≡ e → is_descriptor y.sort ≡ false) → placed_of zs (let_go e told y) ≡ placed_of zs y
let_go_plain e told y zs plain = at (y.endpoint == e) refl
  where
    at : (b : Bool) → (y.endpoint == e) ≡ b → placed_of zs (cond b (record y { reported = y.reported || told; released = true }) y) ≡ placed_of zs y
    at false off = refl
    at true on =
        let sort = plain (same_by_test y.endpoint e on) in
        ap (λ b. cond b (Some (record { endpoint = y.endpoint; block = y.first; waits = not (y.reported || told) && is_chained (framed_in zs y.endpoint) })) None) sort
        ∙ sym (ap (λ b. cond b (Some (record { endpoint = y.endpoint; block = y.first; waits = not y.reported && is_chained (framed_in zs y.endpoint) })) None) sort)

told_quiet : (d : DriverContent) (m : Mem) (e : ℕ) (x : Endpoint) → IsQuiet d (cancel_told d m e x)
told_quiet d m e x =
    either d _ d (is_told x) (record { periodic = refl; endpoints = all_endpoints d.endpoints; transfers = all_transfers d.transfers; room = refl; calm = λ c. c }) (quiet d)

gone_quiet : (d : DriverContent) (e : ℕ) (x : Endpoint) (told : Bool) (book : Book) → slice_get d.endpoints e ≡ Some x → ((k : ℕ) (y : Transfer) → slice_get d.transfers k ≡ Some y → y.endpoint ≡ e → is_descriptor y.sort ≡ false) → IsQuiet d (gone_with d e x told book)
gone_quiet d e x told book here plain = record {
  periodic = refl;
  endpoints = endpoint_set d.endpoints e x (record x { gone = true }) here refl refl (λ off. off);
  transfers = mapped (let_go e told) d.transfers (λ i y there zs. let_go_plain e told y zs (plain i y there));
  room = refl;
  calm = λ c. c;
}

pub endpoint_listed : (p : Parts) (e : ℕ) (o : Option Endpoint) → slice_get p.driver.endpoints e ≡ o → slice_get p.driver.cleared 0 ≡ Some e → IsOrderly p.driver → is_calm p.driver.command ≡ true → IsListed p.driver → IsListed (after_endpoint p e o).driver
endpoint_listed p e None here first order calm old = old
endpoint_listed p e (Some x) here first order calm old =
    let d = p.driver in
    let l = first_left e first order in
    let same : l.endpoint ≡ x = same_Some l.endpoint x (sym l.here ∙ here) in
    let ring : is_periodic x.desc.kind ≡ false = ap (λ (z : Endpoint). is_periodic z.desc.kind) (sym same) ∙ l.ring in
    let told = cancel_told d p.memory e x in
    let s = cancel_same d p.memory e x in
    let q = told_quiet d p.memory e x in
    let book = (free_endpoint d e x (holding d.book p.memory)).book in
    quiet_listed d (gone_with told e x (is_told x) book)
    (both d told (gone_with told e x (is_told x) book) q
    (gone_quiet told e x (is_told x) book (ap (λ (xs : List Endpoint). slice_get xs e) s.endpoints ∙ here)
    (λ k y there at. order.sorts k y x (sym (ap (λ (ts : List Transfer). slice_get ts k) s.transfers) ∙ there) (ap (slice_get d.endpoints) at ∙ here) ∙ ring_queue x.desc.kind ring))) calm old

-- ---- a periodic endpoint that left its frames

and_none : (a b : Bool) → b ≡ false → a && b ≡ false
and_none true b off = off
and_none false b off = refl

-- a transfer of an endpoint out of its frames waits in none
out_same : (xs : List Endpoint) (y z : Transfer) → z.endpoint ≡ y.endpoint → z.first ≡ y.first → z.sort ≡ y.sort → is_chained (framed_in xs y.endpoint) ≡ false → placed_of xs z ≡ placed_of xs y
out_same xs y z endpoint first sort out =
    ap (λ k. cond (is_descriptor k) (Some (record { endpoint = z.endpoint; block = z.first; waits = not z.reported && is_chained (framed_in xs z.endpoint) })) None) sort
    ∙ ap (λ n. cond (is_descriptor y.sort) (Some (record { endpoint = n; block = z.first; waits = not z.reported && is_chained (framed_in xs n) })) None) endpoint
    ∙ ap (λ n. cond (is_descriptor y.sort) (Some (record { endpoint = y.endpoint; block = n; waits = not z.reported && is_chained (framed_in xs y.endpoint) })) None) first
    ∙ ap (λ b. cond (is_descriptor y.sort) (Some (record { endpoint = y.endpoint; block = y.first; waits = b })) None)
    (and_none (not z.reported) (is_chained (framed_in xs y.endpoint)) out ∙ sym (and_none (not y.reported) (is_chained (framed_in xs y.endpoint)) out))

let_go_out : (xs : List Endpoint) (e : ℕ) (told : Bool) (y : Transfer) → is_chained (framed_in xs e) ≡ false → placed_of xs (let_go e told y) ≡ placed_of xs y
let_go_out xs e told y out = at (y.endpoint == e) refl
  where
    at : (b : Bool) → (y.endpoint == e) ≡ b → placed_of xs (cond b (record y { reported = y.reported || told; released = true }) y) ≡ placed_of xs y
    at false off = refl
    at true on = out_same xs y (record y { reported = y.reported || told; released = true }) refl refl refl (ap (λ n. is_chained (framed_in xs n)) (same_by_test y.endpoint e on) ∙ out)

first_true : (a b : Bool) → a && b ≡ true → a ≡ true
first_true true b h = refl
first_true false b h = h

let_wait_out : (xs : List Endpoint) (e : ℕ) (told : Bool) (y : Transfer) → is_chained (framed_in xs e) ≡ false → placed_of xs (let_go_waiting e told y) ≡ placed_of xs y
let_wait_out xs e told y out = at (waits_for e y) refl
  where
    at : (b : Bool) → waits_for e y ≡ b → placed_of xs (cond b (record y { reported = y.reported || told; released = true }) y) ≡ placed_of xs y
    at false off = refl
    at true on =
        out_same xs y (record y { reported = y.reported || told; released = true }) refl refl refl
        (ap (λ n. is_chained (framed_in xs n)) (same_by_test y.endpoint e (first_true (y.endpoint == e) (not y.reported) on)) ∙ out)

placed_out : (xs : List Endpoint) (iso : Bool) (e : ℕ) (told : Bool) (y : Transfer) → is_chained (framed_in xs e) ≡ false → placed_of xs (let_go_placed iso e told y) ≡ placed_of xs y
placed_out xs true e told y out = let_wait_out xs e told y out
placed_out xs false e told y out = let_go_out xs e told y out

all_out : (xs : List Endpoint) (iso : Bool) (e : ℕ) (told : Bool) (ts : List Transfer) (t : ℕ) → is_chained (framed_in xs e) ≡ false → placed_in xs (map (let_go_placed iso e told) ts) t ≡ placed_in xs ts t
all_out xs iso e told ts t out = ap (option_and_then (placed_of xs)) (slice_get-map (let_go_placed iso e told) ts t) ∙ at (slice_get ts t)
  where
    at : (o : Option Transfer) → option_and_then (placed_of xs) (option_map (let_go_placed iso e told) o) ≡ option_and_then (placed_of xs) o
    at None = refl
    at (Some y) = placed_out xs iso e told y out

removed_tables : (d : DriverContent) (e : ℕ) (x : Endpoint) (told : Bool) (book : Book) → slice_get d.endpoints e ≡ Some x → x.chained ≡ false → SameTables d (removed_with d e x told book)
removed_tables d e x told book here out =
    let endpoints = endpoint_set d.endpoints e x (record x { gone = true }) here refl refl (λ off. off) in
    let iso = is_iso x.desc.kind in
    let off : is_chained (framed_in d.endpoints e) ≡ false = ap (λ (o : Option Endpoint). is_chained (option_map framed_of o)) here ∙ out in
    let one = tables d (record (removed_with d e x told book) { transfers = d.transfers }) refl refl refl endpoints (all_transfers d.transfers) refl in
    record {
      list = refl;
      members = refl;
      notes = refl;
      unlinks = refl;
      placed = λ t.
          all_out (set d.endpoints e (record x { gone = true })) iso e told d.transfers t (ap is_chained (endpoints.framed e) ∙ off) ∙ one.placed t;
      framed = one.framed;
      many = let n = length-map d.transfers (let_go_placed iso e told) in omega (arith, n);
      room = let n = length-map d.transfers (let_go_placed iso e told) in omega (arith, n);
      kept = endpoints.kept;
    }

told_listed : (d : DriverContent) (m : Mem) (e : ℕ) (x : Endpoint) → is_calm d.command ≡ true → IsListed d → (is_calm (cancel_told d m e x).command ≡ true) × IsListed (cancel_told d m e x)
told_listed d m e x calm old = let q = told_quiet d m e x in (q.calm calm, quiet_listed d (cancel_told d m e x) q calm old)

placed_listed : (p : Parts) (e : ℕ) (o : Option Endpoint) → slice_get p.driver.endpoints e ≡ o → ((x : Endpoint) → o ≡ Some x → x.chained ≡ false) → is_calm p.driver.command ≡ true → IsListed p.driver → IsListed (after_placed p e o).driver
placed_listed p e None here out calm old = old
placed_listed p e (Some x) here out calm old =
    let d = p.driver in
    let told = cancel_told d p.memory e x in
    let s = cancel_same d p.memory e x in
    let t = told_listed d p.memory e x calm old in
    let book = (free_placed d e x (holding d.book p.memory)).book in
    calm_listed told (removed_with told e x (is_told x) book)
    (removed_tables told e x (is_told x) book (ap (λ (xs : List Endpoint). slice_get xs e) s.endpoints ∙ here) (out x refl))
    (λ idle. record { work = idle.work; queued = idle.queued }) t.0 t.0 t.1

pub removed_listed : (p : Parts) (what : Removed) → IsRemovalDue p what → IsOrderly p.driver → is_calm p.driver.command ≡ true → IsListed p.driver → IsListed (after_removed p what).driver
removed_listed p (removed.Descriptor t) due order calm old = descriptor_listed p t (slice_get p.driver.transfers t) refl calm old
removed_listed p (removed.Endpoint e) due order calm old =
    let l = first_removed e due.removal due.first due.is order in
    placed_listed p e (slice_get p.driver.endpoints e) refl (λ x is. ap (λ (z : Endpoint). z.chained) (same_Some x l.endpoint (sym is ∙ l.here)) ∙ l.chained) calm old
