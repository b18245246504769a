-- Each moment of a run has lines that were taken, whose puts are those of its driver.
use Rattle.std.proofs.Common.{◌≡◌, ℕ, zero, suc, ◌+◌, ◌<◌, ◌≤◌, true, false, List, [], ◌∷◌, ◌++◌, length, ap, sym, subst, refl, ◌∙◌, inl, inr, arith}
use Rattle.std.specs.List.{AllByRecursion}
use Rattle.std.proofs.lemmas.List.{append_assoc}
use Rattle.law_queues.proofs.Common.{no_endpoint}
use Rattle.law_world.proofs.Common2.{no_transfer}
use Rattle.script_types.specs.declared.scripts.Event.TheVariants as events
use Rattle.script_types.specs.declared.scripts.Line.{Line}
use Rattle.script_types.specs.declared.scripts.Line.TheVariants as lines
use Rattle.script_types.specs.declared.scripts.Script.{Script}
use Rattle.bus_wire.specs.Bus.{Fixed, fixed_of}
use Rattle.bus_world.specs.World.{World, kind_next}
use Rattle.bus_world.specs.Opening.{opening_world}
use Rattle.bus_world.specs.Orders.{Left, Events, Microframes, Answer, Command, Plugs, OrderedWorld, at_place, left_of, orders_of, fewer, is_end, tick, tick_by, tick_at, ticks}
use Rattle.bus_world.specs.Budgets.{moment}
use Rattle.bus_world.proofs.Ticks.{ticks_more}
use Rattle.claims_world.specs.Streams.{report_of}
use Rattle.law_world.specs.streams.put_laws.TakenLines.{RiseFrom, NumbersRise, IsPart, AreLeft}
use Rattle.law_world.specs.streams.put_laws.TakenPuts.{PutsAreTaken, no_puts, puts_by, puts_next, puts_tick, puts_at, HasTaken}
use Rattle.law_world.proofs.lemmas.streams.lemmas.put_laws.Steps.{event_keeps_puts, silent_puts, command_takes_puts, then_before, command_there, event_there}

-- ---- the lines before one of later number

pub rise_before : (a : ℕ) (taken : List (ℕ × Line)) (x : ℕ × Line) (left : List (ℕ × Line)) → RiseFrom a (taken ++ x ∷ left) → (a ≤ x.0) × AllByRecursion (λ (l : ℕ × Line). l.0 < x.0) taken
rise_before a [] x left h = (h.0, tt)
rise_before a (y ∷ ys) x left h =
    let rest = rise_before (suc y.0) ys x left h.1 in
    let low = rest.0 in
    let first = h.0 in
    (omega (arith, low, first), (omega (arith, low), rest.1))

-- ---- one event or command

module _ (s : Script) (puts : ℕ → List ℕ) where
  -- a part of a line goes on, or ends; nothing of the next line is begun
  part_taken : (w : World) (x : Left) (taken left : List (ℕ × Line)) → IsPart x → s.lines ≡ taken ++ left → PutsAreTaken w.driver (report_of (fixed_of s) w) taken puts
      → HasTaken s (tick_by (fixed_of s) w x (orders_of left)) puts
  part_taken w (Events event zero) taken left part is h = record { taken = taken; left = left; lines = record { lines = is; orders = inl refl }; sent = h }
  part_taken w (Events event (suc n)) taken left part is h =
      record { taken = taken; left = left; lines = record { lines = is; orders = inr (Events event n, tt, refl) }; sent = event_keeps_puts (fixed_of s) w event taken puts h }
  part_taken w (Microframes zero) taken left part is h = record { taken = taken; left = left; lines = record { lines = is; orders = inl refl }; sent = h }
  part_taken w (Microframes (suc n)) taken left part is h =
      record { taken = taken; left = left; lines = record { lines = is; orders = inr (Answer (is_end (kind_next w)) (suc n), tt, refl) }; sent = event_keeps_puts (fixed_of s) w events.C taken puts h }
  part_taken w (Answer ended n) taken left part is h =
      record { taken = taken; left = left; lines = record { lines = is; orders = inr (Microframes (fewer ended n), tt, refl) }; sent = event_keeps_puts (fixed_of s) w events.D taken puts h }
  part_taken w (Command n cmd) taken left part is h = absurd part
  part_taken w (Plugs there port) taken left part is h = record { taken = taken; left = left; lines = record { lines = is; orders = inl refl }; sent = h }

  part_puts : (w : World) (x : Left) → IsPart x → puts_by w x puts ≡ puts
  part_puts w (Events event n) part = refl
  part_puts w (Microframes n) part = refl
  part_puts w (Answer ended n) part = refl
  part_puts w (Command n cmd) part = absurd part
  part_puts w (Plugs there port) part = refl

  one_more : (taken left : List (ℕ × Line)) (l : ℕ × Line) → s.lines ≡ taken ++ l ∷ left → s.lines ≡ (taken ++ l ∷ []) ++ left
  one_more taken left l is = is ∙ sym (append_assoc taken (l ∷ []) left)

  line_taken : (w : World) (n : ℕ) (line : Line) (taken left : List (ℕ × Line)) → NumbersRise s → s.lines ≡ taken ++ (n, line) ∷ left → PutsAreTaken w.driver (report_of (fixed_of s) w) taken puts
      → HasTaken s (tick_by (fixed_of s) w (left_of line n) (orders_of left)) (puts_by w (left_of line n) puts)
  line_taken w n (lines.Order event k) taken left rise is h =
      part_taken w (Events event k) (taken ++ (n, lines.Order event k) ∷ []) left tt (one_more taken left (n, lines.Order event k) is)
      (silent_puts w.driver (report_of (fixed_of s) w) taken (n, lines.Order event k) puts refl h)
  line_taken w n (lines.Micro k) taken left rise is h =
      part_taken w (Microframes k) (taken ++ (n, lines.Micro k) ∷ []) left tt (one_more taken left (n, lines.Micro k) is)
      (silent_puts w.driver (report_of (fixed_of s) w) taken (n, lines.Micro k) puts refl h)
  line_taken w n (lines.Command cmd) taken left rise is h = record {
    taken = taken ++ (n, lines.Command cmd) ∷ [];
    left = left;
    lines = record { lines = one_more taken left (n, lines.Command cmd) is; orders = inl refl };
    sent = command_takes_puts (fixed_of s) w n cmd taken puts
        (rise_before 0 taken (n, lines.Command cmd) left (subst (RiseFrom 0) is rise)).1 h;
  }
  line_taken w n (lines.Plug k) taken left rise is h =
      part_taken w (Plugs true k) (taken ++ (n, lines.Plug k) ∷ []) left tt (one_more taken left (n, lines.Plug k) is)
      (silent_puts w.driver (report_of (fixed_of s) w) taken (n, lines.Plug k) puts refl h)
  line_taken w n (lines.Unplug k) taken left rise is h =
      part_taken w (Plugs false k) (taken ++ (n, lines.Unplug k) ∷ []) left tt (one_more taken left (n, lines.Unplug k) is)
      (silent_puts w.driver (report_of (fixed_of s) w) taken (n, lines.Unplug k) puts refl h)

  next_taken : (w : World) (taken left : List (ℕ × Line)) → NumbersRise s → s.lines ≡ taken ++ left → PutsAreTaken w.driver (report_of (fixed_of s) w) taken puts
      → HasTaken s (tick_at (fixed_of s) w (orders_of left)) (puts_next w (orders_of left) puts)
  next_taken w taken [] rise is h = record { taken = taken; left = []; lines = record { lines = is; orders = inl refl }; sent = h }
  next_taken w taken (l ∷ ls) rise is h = line_taken w l.0 l.1 taken ls rise is h

  orders_taken : (w : World) (orders : List Left) (taken left : List (ℕ × Line)) → NumbersRise s → s.lines ≡ taken ++ left → PutsAreTaken w.driver (report_of (fixed_of s) w) taken puts → AreLeft orders left
      → HasTaken s (tick_at (fixed_of s) w orders) (puts_next w orders puts)
  orders_taken w orders taken left rise is h (inl e) = subst (λ (os : List Left). HasTaken s (tick_at (fixed_of s) w os) (puts_next w os puts)) (sym e) (next_taken w taken left rise is h)
  orders_taken w orders taken left rise is h (inr e) =
      subst (λ (os : List Left). HasTaken s (tick_at (fixed_of s) w os) (puts_next w os puts)) (sym e.2)
      (subst (λ (ps : ℕ → List ℕ). HasTaken s (tick_by (fixed_of s) w e.0 (orders_of left)) ps) (sym (part_puts w e.0 e.1)) (part_taken w e.0 taken left e.1 is h))

pub tick_takes_puts : (s : Script) (p : OrderedWorld) (puts : ℕ → List ℕ) → NumbersRise s → HasTaken s p puts → HasTaken s (tick (fixed_of s) p) (puts_tick p puts)
tick_takes_puts s p puts rise h = orders_taken s puts p.world p.orders h.taken h.left rise h.lines.lines h.sent h.lines.orders

-- ---- transfers and their puts stay

stay_by : (fixed : Fixed) (w : World) (x : Left) (rest : List Left) (puts : ℕ → List ℕ) (t : ℕ) → t < length w.driver.transfers
    → (t < length (tick_by fixed w x rest).world.driver.transfers) × (puts_by w x puts t ≡ puts t)
stay_by fixed w (Events event zero) rest puts t low = (low, refl)
stay_by fixed w (Events event (suc n)) rest puts t low = (event_there fixed w event t low, refl)
stay_by fixed w (Microframes zero) rest puts t low = (low, refl)
stay_by fixed w (Microframes (suc n)) rest puts t low = (event_there fixed w events.C t low, refl)
stay_by fixed w (Answer ended n) rest puts t low = (event_there fixed w events.D t low, refl)
stay_by fixed w (Command n cmd) rest puts t low = (command_there w n cmd t low, then_before w.driver cmd puts t low)
stay_by fixed w (Plugs there port) rest puts t low = (low, refl)

stay_at : (fixed : Fixed) (w : World) (orders : List Left) (puts : ℕ → List ℕ) (t : ℕ) → t < length w.driver.transfers
    → (t < length (tick_at fixed w orders).world.driver.transfers) × (puts_next w orders puts t ≡ puts t)
stay_at fixed w [] puts t low = (low, refl)
stay_at fixed w (x ∷ rest) puts t low = stay_by fixed w x rest puts t low

pub puts_stay : (fixed : Fixed) (p : OrderedWorld) (puts : ℕ → List ℕ) (t : ℕ) → t < length p.world.driver.transfers
    → (t < length (tick fixed p).world.driver.transfers) × (puts_tick p puts t ≡ puts t)
puts_stay fixed p puts t low = stay_at fixed p.world p.orders puts t low

-- ---- each moment

pub next_moment : (s : Script) (k : ℕ) → moment s (suc k) ≡ tick (fixed_of s) (moment s k)
unfolding ticks
next_moment s k =
    let e : suc k ≡ k + 1 = omega arith in
    ap (moment s) e ∙ ticks_more (fixed_of s) (at_place (opening_world s) (orders_of s.lines)) k 1

pub each_moment : (s : Script) (P : OrderedWorld → (ℕ → List ℕ) → Type 0) → P (at_place (opening_world s) (orders_of s.lines)) no_puts
    → ((p : OrderedWorld) (puts : ℕ → List ℕ) → P p puts → P (tick (fixed_of s) p) (puts_tick p puts)) → (k : ℕ) → P (moment s k) (puts_at s k)
unfolding ticks puts_at
each_moment s P first step zero = first
each_moment s P first step (suc k) =
    subst (λ (p : OrderedWorld). P p (puts_tick (moment s k) (puts_at s k))) (sym (next_moment s k)) (step (moment s k) (puts_at s k) (each_moment s P first step k))

opening_taken : (s : Script) → HasTaken s (at_place (opening_world s) (orders_of s.lines)) no_puts
opening_taken s = record {
  taken = [];
  left = s.lines;
  lines = record { lines = refl; orders = inl refl };
  sent = record {
    each = λ e x here on out. absurd (no_endpoint e x here);
    others = λ name none. refl;
    opened = tt;
    refused = λ n on. absurd (cc);
    apart = λ e k x y here there same. absurd (no_endpoint e x here);
    within = λ t y here. absurd (no_transfer t y here);
  };
}

pub moments_take_puts : (s : Script) → NumbersRise s → (k : ℕ) → HasTaken s (moment s k) (puts_at s k)
moments_take_puts s rise k = each_moment s (HasTaken s) (opening_taken s) (λ p puts h. tick_takes_puts s p puts rise h) k
