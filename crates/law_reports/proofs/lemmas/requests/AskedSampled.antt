-- A control request along its run.
use Rattle.std.proofs.Common.{◌≡◌, ℕ, zero, suc, true, false, List, [], ◌∷◌, slice_get, Some, ap, refl, sym, subst, ◌∙◌}
use Rattle.std.proofs.lemmas.Bool.{true≢false}
use Rattle.std.proofs.lemmas.Option.{same_Some}
use Rattle.script_types.specs.declared.scripts.Event.TheVariants as events
use Rattle.script_types.specs.declared.scripts.Script.{Script}
use Rattle.word_mem.specs.Memory.{filled}
use Rattle.word_mem.specs.Views.{words_in, with_words_in}
use Rattle.word_mem.specs.Free.{lowest_run}
use Rattle.link_words.specs.Layout.{first_bad_bit}
use Rattle.link_words.specs.Links.{link_read, qtd_link_read, link_word, qtd_link_word}
use Rattle.mem_bytes.specs.Bytes.{words_from, put_byte, places, bytes_at, put_bytes, reached, all_reached, stored, loaded}
use Rattle.qh_qtd.specs.Token.{token_word, token_at}
use Rattle.qh_qtd.specs.Qtd.{qtd_words, qtd_bad, qtd_at, qtd_read}
use Rattle.qh_qtd.specs.QueueHead.{qh_words, qh_bad, qh_at, qh_read}
use Rattle.usb_base.specs.declared.reports.What.TheVariants.{Done, Cancel}
use Rattle.mem_runs.specs.Book.{lend_runs, store_words}
use Rattle.hc_copy.specs.Overlay.{advanced, settled_queue, moved}
use Rattle.hc_copy.specs.WriteBack.{overlay_after, written_back, raised}
use Rattle.async_walk.specs.Naks.{reloaded, counted_queue}
use Rattle.drv_table.specs.declared.content.Endpoint.{Endpoint}
use Rattle.drv_table.specs.Harvests.{buffer_bytes, moved_bytes, bytes_now}
use Rattle.drv_table.specs.Releases.{free_qtds, free_transfers, cancelled_bytes}
use Rattle.bus_wire.specs.Bus.{Fixed, fixed_of}
use Rattle.bus_world.specs.Budgets.{moment}
use Rattle.bus_world.specs.Orders.{Left, Events, Microframes, Answer, Command, Plugs, ticks}
use Rattle.bus_world.specs.World.{World}
use Rattle.claims_report.specs.Controls.{is_of_hub}
use Rattle.claims_report.specs.Reports.{acted}
use Rattle.claims_report.specs.Requests.{Window, data_of, AreTold}
use Rattle.claims_world.specs.Carried.{carried_in, carried_from, carried}
use Rattle.claims_world.specs.Requests.{Windows, no_windows, after_event, after_orders, windows_at, asks_at, windows_of, report_at}
use Rattle.claims_world.specs.Requests.{windows_then, IsOfDevice}
use Rattle.law_reports.specs.requests.CancelledTold.{before_cancel}
use Rattle.law_world.proofs.lemmas.memory.Carrying.{carried_then}
use Rattle.law_devices.specs.declared_controls.Samples.{zero as control, reading}
use Rattle.law_reports.specs.requests.AskedSamples.{asked_once, asked_windows, asked_lines, its_window, asked_hub}
use Rattle.law_reports.specs.requests.AskedSamples.{asked_cancelled, cancelled_lines}

-- ---- the windows are carried along

orders_carry : (fixed : Fixed) (w : World) (orders : List Left) (v : Windows)
    → after_orders fixed w orders v ≡ carried_in after_event fixed w orders v
orders_carry fixed w [] v = refl
orders_carry fixed w (Events event zero ∷ rest) v = refl
orders_carry fixed w (Events events.D (suc n) ∷ rest) v = refl
orders_carry fixed w (Events events.C (suc n) ∷ rest) v = refl
orders_carry fixed w (Microframes zero ∷ rest) v = refl
orders_carry fixed w (Microframes (suc n) ∷ rest) v = refl
orders_carry fixed w (Answer ended n ∷ rest) v = refl
orders_carry fixed w (Command n cmd ∷ rest) v = refl
orders_carry fixed w (Plugs there port ∷ rest) v = refl

pub windows_carried : (s : Script) (k : ℕ) → windows_at s k ≡ carried after_event s no_windows k
unfolding windows_at carried_from
windows_carried s zero = refl
windows_carried s (suc k) =
    ap (after_orders (fixed_of s) (moment s k).world (moment s k).orders) (windows_carried s k)
    ∙ orders_carry (fixed_of s) (moment s k).world (moment s k).orders (carried after_event s no_windows k)
    ∙ sym (carried_then after_event s no_windows k)

abbrev its : Windows → ℕ → List Window
its v k = windows_of (moment asked_once k).world.driver (asks_at asked_once k) v 0

computed : (k : ℕ) (ws : List Window) → its (carried after_event asked_once no_windows k) k ≡ ws → asked_windows k ≡ ws
computed k ws is = ap (λ (v : Windows). its v k) (windows_carried asked_once k) ∙ is

begun_windows : its (carried after_event asked_once no_windows 32) 32 ≡ its_window [] ∷ []
unfolding ticks carried_from asks_at lowest_run filled words_in with_words_in store_words lend_runs first_bad_bit link_read qtd_link_read
    link_word qtd_link_word token_word token_at qtd_words qtd_bad qtd_at qtd_read qh_words qh_bad qh_at qh_read words_from put_byte places
    bytes_at put_bytes reached all_reached stored loaded advanced settled_queue moved overlay_after written_back raised reloaded
    counted_queue
begun_windows = refl

pub begun : asked_windows 32 ≡ its_window [] ∷ []
begun = computed 32 (its_window [] ∷ []) begun_windows

acted_windows : its (carried after_event asked_once no_windows 33) 33 ≡ its_window (reading ∷ []) ∷ []
unfolding ticks carried_from asks_at lowest_run filled words_in with_words_in store_words lend_runs first_bad_bit link_read qtd_link_read
    link_word qtd_link_word token_word token_at qtd_words qtd_bad qtd_at qtd_read qh_words qh_bad qh_at qh_read words_from put_byte places
    bytes_at put_bytes reached all_reached stored loaded advanced settled_queue moved overlay_after written_back raised reloaded
    counted_queue
acted_windows = refl

pub acts : asked_windows 33 ≡ its_window (reading ∷ []) ∷ []
acts = computed 33 (its_window (reading ∷ []) ∷ []) acted_windows

-- ---- once all is carried out

last_windows : its (carried after_event asked_once no_windows 39) 39 ≡ its_window (reading ∷ []) ∷ []
unfolding ticks carried_from asks_at lowest_run filled words_in with_words_in store_words lend_runs first_bad_bit link_read qtd_link_read
    link_word qtd_link_word token_word token_at qtd_words qtd_bad qtd_at qtd_read qh_words qh_bad qh_at qh_read words_from put_byte places
    bytes_at put_bytes reached all_reached stored loaded advanced settled_queue moved overlay_after written_back raised reloaded
    counted_queue
last_windows = refl

pub last : asked_windows 39 ≡ its_window (reading ∷ []) ∷ []
last = computed 39 (its_window (reading ∷ []) ∷ []) last_windows

pub told :
    ((moment asked_once 39).orders ≡ [])
    × (asked_lines ≡ record { name = control.name; what = Done; from = 0; len = 2 } ∷ [])
    × ((report_at asked_once 39).store ≡ 18 ∷ 1 ∷ [])
    × (acted (report_at asked_once 39) control.name ≡ Some 1)
unfolding ticks lowest_run filled words_in with_words_in store_words lend_runs first_bad_bit link_read qtd_link_read link_word
    qtd_link_word token_word token_at qtd_words qtd_bad qtd_at qtd_read qh_words qh_bad qh_at qh_read words_from put_byte places bytes_at
    put_bytes reached all_reached stored loaded advanced settled_queue moved overlay_after written_back raised reloaded counted_queue
    buffer_bytes moved_bytes bytes_now free_qtds free_transfers
told = (refl, refl, refl, refl)

abbrev Known : Endpoint → Type 0
Known x = IsOfDevice asked_once 39 0 x × (x.cancelled ≡ false)

known : (x : Endpoint) → slice_get (moment asked_once 39).world.driver.endpoints 0 ≡ Some x → Known x
unfolding ticks lowest_run filled words_in with_words_in store_words lend_runs first_bad_bit link_read qtd_link_read link_word
    qtd_link_word token_word token_at qtd_words qtd_bad qtd_at qtd_read qh_words qh_bad qh_at qh_read words_from put_byte places bytes_at
    put_bytes reached all_reached stored loaded advanced settled_queue moved overlay_after written_back raised reloaded counted_queue
    buffer_bytes moved_bytes bytes_now free_qtds free_transfers
known x here =
    subst Known (same_Some _ x here)
    (record { opened = record { here = refl; control = refl; opened = refl }; high = refl; device = refl }, refl)

pub is_of_device : (x : Endpoint) → slice_get (moment asked_once 39).world.driver.endpoints 0 ≡ Some x → IsOfDevice asked_once 39 0 x
is_of_device x here = (known x here).0

pub goes_on : (x : Endpoint) → slice_get (moment asked_once 39).world.driver.endpoints 0 ≡ Some x → x.cancelled ≡ false
goes_on x here = (known x here).1

-- ---- what isn't told

no_act : (reading ∷ []) ≡ [] → ⊥
no_act is = cc

pub early : AreTold (data_of asked_once control.name) (18 ∷ 1 ∷ []) (asked_windows 32) asked_lines → ⊥
early k =
    let one : AreTold (data_of asked_once control.name) (18 ∷ 1 ∷ []) (its_window [] ∷ [])
    (record { name = control.name; what = Done; from = 0; len = 2 } ∷ []) =
    subst (λ (ls : _). AreTold (data_of asked_once control.name) (18 ∷ 1 ∷ []) (its_window [] ∷ []) ls) told.1
    (subst (λ (ws : List Window). AreTold (data_of asked_once control.name) (18 ∷ 1 ∷ []) ws asked_lines) begun k) in
    no_act (sym one.0.0)

hub_addr : (x : Endpoint) → slice_get (moment asked_hub 3).world.driver.endpoints 0 ≡ Some x → x.desc.name.addr ≡ 4
unfolding ticks lowest_run filled with_words_in store_words lend_runs qh_words qtd_words
hub_addr x here = ap (λ (y : Endpoint). y.desc.name.addr) (sym (same_Some _ x here))

pub no_hub : (x : Endpoint) → IsOfDevice asked_hub 3 0 x → ⊥
no_hub x k =
    true≢false (sym (ap (is_of_hub asked_hub) (hub_addr x k.opened.here)) ∙ k.device)

-- ---- a cancel

abbrev cancelled_then : Windows → List Window
cancelled_then v = windows_of (moment asked_cancelled 100).world.driver (asks_at asked_cancelled 100) v 0

cancelled_windows : cancelled_then (carried after_event asked_cancelled no_windows 100) ≡ its_window (reading ∷ []) ∷ []
unfolding ticks carried_from asks_at lowest_run filled words_in with_words_in store_words lend_runs first_bad_bit link_read qtd_link_read
    link_word qtd_link_word token_word token_at qtd_words qtd_bad qtd_at qtd_read qh_words qh_bad qh_at qh_read words_from put_byte places
    bytes_at put_bytes reached all_reached stored loaded advanced settled_queue moved overlay_after written_back raised reloaded
    counted_queue buffer_bytes moved_bytes bytes_now free_qtds free_transfers cancelled_bytes
cancelled_windows = refl

pub cancelled_window : windows_then asked_cancelled 100 0 ≡ its_window (reading ∷ []) ∷ []
cancelled_window = ap cancelled_then (windows_carried asked_cancelled 100) ∙ cancelled_windows

pub cancelled_told :
    ((moment asked_cancelled 100).orders ≡ [])
    × (cancelled_lines
    ≡ record { name = control.name; what = Done; from = 0; len = 2 }
    ∷ record { name = control.name; what = Cancel; from = 2; len = 0 } ∷ [])
    × (before_cancel cancelled_lines ≡ record { name = control.name; what = Done; from = 0; len = 2 } ∷ [])
unfolding ticks lowest_run filled words_in with_words_in store_words lend_runs first_bad_bit link_read qtd_link_read link_word
    qtd_link_word token_word token_at qtd_words qtd_bad qtd_at qtd_read qh_words qh_bad qh_at qh_read words_from put_byte places bytes_at
    put_bytes reached all_reached stored loaded advanced settled_queue moved overlay_after written_back raised reloaded counted_queue
    buffer_bytes moved_bytes bytes_now free_qtds free_transfers cancelled_bytes
cancelled_told = (refl, refl, refl)

abbrev KnownThen : Endpoint → Type 0
KnownThen x = IsOfDevice asked_cancelled 100 0 x × (x.cancelled ≡ true)

known_then : (x : Endpoint) → slice_get (moment asked_cancelled 100).world.driver.endpoints 0 ≡ Some x → KnownThen x
unfolding ticks lowest_run filled words_in with_words_in store_words lend_runs first_bad_bit link_read qtd_link_read link_word
    qtd_link_word token_word token_at qtd_words qtd_bad qtd_at qtd_read qh_words qh_bad qh_at qh_read words_from put_byte places bytes_at
    put_bytes reached all_reached stored loaded advanced settled_queue moved overlay_after written_back raised reloaded counted_queue
    buffer_bytes moved_bytes bytes_now free_qtds free_transfers cancelled_bytes
known_then x here =
    subst KnownThen (same_Some _ x here)
    (record { opened = record { here = refl; control = refl; opened = refl }; high = refl; device = refl }, refl)

pub device_then : (x : Endpoint) → slice_get (moment asked_cancelled 100).world.driver.endpoints 0 ≡ Some x
    → IsOfDevice asked_cancelled 100 0 x
device_then x here = (known_then x here).0

pub was_cancelled : (x : Endpoint) → slice_get (moment asked_cancelled 100).world.driver.endpoints 0 ≡ Some x → x.cancelled ≡ true
was_cancelled x here = (known_then x here).1
