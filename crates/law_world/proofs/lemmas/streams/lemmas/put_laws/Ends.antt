-- The puts of an endpoint begin its stream in the report, and are all of it once all lines were taken.
use Rattle.std.proofs.Common.{◌≡◌, ℕ, true, false, List, [], ◌∷◌, ◌++◌, filter_map, slice_get, Some, ap, sym, subst, refl, ◌∙◌, inl, inr}
use Rattle.std.specs.List.{AllByRecursion, concat}
use Rattle.std.proofs.lemmas.List.{append-nil}
use Rattle.std.proofs.lemmas.List.Elements.{filter_map-append}
use Rattle.std.proofs.lemmas.List.Folds.{concat-append}
use Rattle.law_driver.proofs.Common.{out_way}
use Rattle.usb_base.specs.declared.endpoints.EpName.{EpName}
use Rattle.usb_base.specs.declared.packets.Way.{Way}
use Rattle.script_types.specs.declared.scripts.Line.{Line}
use Rattle.script_types.specs.declared.scripts.Script.{Script}
use Rattle.bus_wire.specs.Bus.{fixed_of}
use Rattle.claims_base.specs.Prefix.{IsPrefix}
use Rattle.drv_table.specs.declared.content.Endpoint.{Endpoint}
use Rattle.claims_report.specs.Reports.{WholeReport}
use Rattle.claims_report.specs.Streams.{accepted_in, put_in, stream_by, stream, has_stream}
use Rattle.claims_driver.specs.Scripts.{receives}
use Rattle.bus_world.specs.Orders.{Left, OrderedWorld, orders_of}
use Rattle.bus_world.specs.Budgets.{moment}
use Rattle.claims_world.specs.Streams.{report_of}
use Rattle.law_world.specs.streams.put_laws.TakenLines.{NumbersRise, AreLeft, AreTaken}
use Rattle.law_world.specs.streams.put_laws.TakenPuts.{puts_of, puts_to, opened_in, IsOpen, puts_at, HasTaken}
use Rattle.law_world.specs.streams.put_laws.TakenLaws.{StreamsArePuts}
use Rattle.law_world.proofs.lemmas.streams.lemmas.put_laws.Moments.{moments_take_puts}

-- nothing is left behind the last order
none_left : (orders : List Left) (left : List (ℕ × Line)) → orders ≡ [] → AreLeft orders left → left ≡ []
none_left orders [] none h = refl
none_left orders (l ∷ ls) none (inl e) = let f : orders_of (l ∷ ls) ≡ [] = sym e ∙ none in absurd (cc)
none_left orders (l ∷ ls) none (inr e) = let f : e.0 ∷ orders_of (l ∷ ls) ≡ [] = sym e.2 ∙ none in absurd (cc)

puts_join : (r : WholeReport) (taken left : List (ℕ × Line)) (name : EpName) → puts_to r (taken ++ left) name ≡ puts_to r taken name ++ puts_to r left name
puts_join r taken left name =
    ap (λ xs. concat (filter_map (put_in name) xs)) (filter_map-append (accepted_in r) taken left)
    ∙ ap concat (filter_map-append (put_in name) (filter_map (accepted_in r) taken) (filter_map (accepted_in r) left))
    ∙ concat-append (filter_map (put_in name) (filter_map (accepted_in r) taken)) (filter_map (put_in name) (filter_map (accepted_in r) left))

-- the stream of an OUT endpoint
stream_puts : (s : Script) (r : WholeReport) (name : EpName) → receives name.way ≡ false → stream s r name ≡ puts_to r s.lines name
stream_puts s r name out = ap (λ (way : Way). stream_by way s r name) (out_way name.way out)

streams_begin : (s : Script) (p : OrderedWorld) (puts : ℕ → List ℕ) (e : ℕ) (x : Endpoint) → slice_get p.world.driver.endpoints e ≡ Some x → has_stream x.desc.kind ≡ true → receives x.desc.name.way ≡ false → HasTaken s p puts
    → IsPrefix (concat (puts_of p.world.driver puts e)) (stream s (report_of (fixed_of s) p.world) x.desc.name)
streams_begin s p puts e x here on out h =
    let r = report_of (fixed_of s) p.world in
    let name = x.desc.name in (
      puts_to r h.left name,
      ap (λ xs. xs ++ puts_to r h.left name) (h.sent.each e x here on out) ∙ sym (puts_join r h.taken h.left name) ∙ ap (λ xs. puts_to r xs name) (sym h.lines.lines) ∙ sym (stream_puts s r name out),
    )

pub all_are_taken : (s : Script) (p : OrderedWorld) (taken left : List (ℕ × Line)) → AreTaken s p taken left → p.orders ≡ [] → (left ≡ []) × (taken ≡ s.lines)
all_are_taken s p taken left h none =
    let last = none_left p.orders left none h.orders in
    (last, sym (h.lines ∙ ap (λ xs. taken ++ xs) last ∙ append-nil taken))

all_lines : (s : Script) (p : OrderedWorld) (puts : ℕ → List ℕ) → p.orders ≡ [] → (h : HasTaken s p puts) → s.lines ≡ h.taken
all_lines s p puts none h = sym (all_are_taken s p h.taken h.left h.lines none).1

streams_all : (s : Script) (p : OrderedWorld) (puts : ℕ → List ℕ) → p.orders ≡ [] → (e : ℕ) (x : Endpoint) → slice_get p.world.driver.endpoints e ≡ Some x → has_stream x.desc.kind ≡ true → receives x.desc.name.way ≡ false
    → HasTaken s p puts → stream s (report_of (fixed_of s) p.world) x.desc.name ≡ concat (puts_of p.world.driver puts e)
streams_all s p puts none e x here on out h =
    let r = report_of (fixed_of s) p.world in
    let name = x.desc.name in
    stream_puts s r name out ∙ ap (λ xs. puts_to r xs name) (all_lines s p puts none h) ∙ sym (h.sent.each e x here on out)

pub streams_puts : (s : Script) (p : OrderedWorld) (puts : ℕ → List ℕ) → HasTaken s p puts → StreamsArePuts s p puts
streams_puts s p puts h = record {
  begin = λ e x here on out. streams_begin s p puts e x here on out h;
  all = λ none e x here on out. streams_all s p puts none e x here on out h;
  opened = λ none. subst (λ xs. AllByRecursion (IsOpen p.world.driver) (opened_in (report_of (fixed_of s) p.world) xs)) (sym (all_lines s p puts none h)) h.sent.opened;
}

pub streams_are_of_puts : (s : Script) → NumbersRise s → (k : ℕ) → StreamsArePuts s (moment s k) (puts_at s k)
streams_are_of_puts s rise k = streams_puts s (moment s k) (puts_at s k) (moments_take_puts s rise k)
