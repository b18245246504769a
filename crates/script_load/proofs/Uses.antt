-- What a load script's later lines need, once all of its endpoints are declared.
use Rattle.std.proofs.Common.{◌≡◌, ℕ, suc, zero, ◌+◌, ◌-◌, ◌*◌, ◌/◌, ◌%◌, ◌^◌, ◌<◌, ◌≤◌, Bool, true, false, List, [], ◌∷◌, ◌++◌, map, length, Option, Some, None, Ok, refl, sym, ap, ◌∙◌, subst, inl, inr, arith}
use Rattle.std.specs.Prelude.{◌==◌, ◌&&◌, not, nat_le, nat_lt, is_some, if◌then◌else◌, filter_map}
use Rattle.std.specs.List.{range_with_len, cons_option}
use Rattle.std.specs.Option.{option_map_or, option_or}
use Rattle.std.proofs.lemmas.Bool.{cond_both, cond-true, and_from, le-leb, lt-ltb}
use Rattle.std.proofs.lemmas.List.{append-nil}
use Rattle.std.proofs.lemmas.List.Elements.{filter_map-append}
use Rattle.std.proofs.lemmas.List.FromFn.{map-range_with_len_more}
use Rattle.usb_base.specs.declared.packets.Way.TheVariants as way
use Rattle.usb_base.specs.declared.endpoints.EpDesc.{EpDesc}
use Rattle.usb_base.specs.declared.commands.Cmd.{Cmd}
use Rattle.usb_base.specs.declared.commands.Cmd.TheVariants as cmd
use Rattle.script_types.specs.declared.scripts.Event.TheVariants as event
use Rattle.script_types.specs.declared.scripts.Line.{Line}
use Rattle.script_types.specs.declared.scripts.Line.TheVariants as line
use Rattle.script_forms.specs.declared.statements.Name.{Name}
use Rattle.script_forms.specs.declared.statements.GetLine.{GetLine}
use Rattle.script_forms.specs.declared.statements.PutLine.{PutLine}
use Rattle.script_forms.specs.declared.statements.Content.TheVariants as content
use Rattle.script_forms.specs.declared.statements.Answer.TheVariants as answers
use Rattle.script_forms.specs.declared.statements.Statement.{Statement}
use Rattle.script_forms.specs.declared.statements.Statement.TheVariants as says
use Rattle.script_world.specs.Draft.{Draft, device_ep, hub_ep, known, is_name, filled, same_way}
use Rattle.script_world.specs.Ranges.{can_answer, some_answer, reply_ranged}
use Rattle.script_world.specs.Rows.{cause_of, after, answered, commanded, where_known, name_of, by_of, at_ep, roomier, counted, put_room}
use Rattle.script_load.specs.Load.{address, is_in}
use Rattle.script_load.proofs.Spaced.{has_no_cause}
use Rattle.script_load.proofs.Said.{ep_name, num_of, way_of}
use Rattle.script_load.proofs.Drafts.{load_name, load_desc, opened_by, opens_of, eps_stay}
use Rattle.script_load.proofs.Declares.{IsDeclaring}

-- All endpoints are declared, and what counts toward the limits is that of so many lines; these were opened.
pub record IsReady (ds : List ℕ) (count opened : ℕ) (w : Draft) : Type 0 where
  pub version : w.version ≡ 1
  pub declared : (i : ℕ) → i < 40 → device_ep w (load_name i) ≡ Some (load_desc ds i)
  pub commands : w.commands ≤ count
  pub scripted : w.scripted ≤ 9000 * count
  pub asked : w.asked ≤ 9000 * count
  pub steps : w.steps ≤ 2000 * count
  pub microframes : w.microframes ≡ 0
  pub opens : opens_of w.lines ≡ map (load_desc ds) (range_with_len 0 opened)

pub ready : (ds : List ℕ) (w : Draft) → IsDeclaring ds 40 w → IsReady ds 0 0 w
ready ds w h = record {
  version = h.version;
  declared = λ i lt. h.done i lt lt;
  commands = omega (arith, h.commands);
  scripted = omega (arith, h.scripted);
  asked = omega (arith, h.asked);
  steps = omega (arith, h.steps);
  microframes = h.microframes;
  opens = ap opens_of h.lines;
}

name_is : (a : ℕ) (b : Bool) → a ≤ 20 → is_name (ep_name a b) ≡ true
name_is a true h = and_from (nat_le a 127) true (le-leb a 127 (omega (arith, h))) refl
name_is a false h = and_from (nat_le a 127) true (le-leb a 127 (omega (arith, h))) refl

opens_more : (ls : List (ℕ × Line)) (n : ℕ) (l : Line) → opens_of (ls ++ (n, l) ∷ []) ≡ opens_of ls ++ opens_of ((n, l) ∷ [])
opens_more ls n l = filter_map-append (λ (x : ℕ × Line). opened_by x.1) ls ((n, l) ∷ [])

opens_none : (ls : List (ℕ × Line)) (n : ℕ) (l : Line) → opened_by l ≡ None → opens_of (ls ++ (n, l) ∷ []) ≡ opens_of ls
opens_none ls n l e = opens_more ls n l ∙ ap (λ (o : Option EpDesc). opens_of ls ++ cons_option o []) e ∙ append-nil (opens_of ls)

opens_next : (ds : List ℕ) (i : ℕ) (ls : List (ℕ × Line)) (n : ℕ) → opens_of ls ≡ map (load_desc ds) (range_with_len 0 i)
    → opens_of (ls ++ (n, line.Command (cmd.OpenEp (load_desc ds i))) ∷ []) ≡ map (load_desc ds) (range_with_len 0 (i + 1))
opens_next ds i ls n e =
    opens_more ls n (line.Command (cmd.OpenEp (load_desc ds i))) ∙ ap (λ xs. xs ++ load_desc ds i ∷ []) e
    ∙ sym (map-range_with_len_more (load_desc ds) 0 i i (omega arith))

module _ (ds : List ℕ) (count opened : ℕ) (w : Draft) (h : IsReady ds count opened w) where
  known_is : (i : ℕ) → i < 40 → known w (load_name i) ≡ Some (load_desc ds i)
  known_is i lt =
      cond-true (is_name (load_name i)) (option_or (device_ep w (load_name i)) (hub_ep w (load_name i))) None
      (name_is (address i) (is_in i) (omega (arith, lt)))
      ∙ ap (λ (o : Option EpDesc). option_or o (hub_ep w (load_name i))) (h.declared i lt)

  is_declared : (i : ℕ) → i < 40 → is_some (known w (load_name i)) ≡ true
  is_declared i lt = ap is_some (known_is i lt)

  -- as it is changed by `order d`
  ordered : ℕ → ℕ → Draft
  ordered n k = after w n (says.Order event.D k)

  pub order_no_cause : (k : ℕ) → count ≤ 200 → k ≤ 2000 → cause_of w (says.Order event.D k) ≡ None
  order_no_cause k le small =
      has_no_cause w (says.Order event.D k) refl refl refl
      (and_from (nat_le k 1000000) (nat_le (w.steps + k) 4000000) (le-leb k 1000000 (omega (arith, small)))
      (le-leb (w.steps + k) 4000000 (omega (arith, h.steps, small, le))))

  pub ordered_is_ready : (n k : ℕ) → k ≤ 2000 → IsReady ds (count + 1) opened (after w n (says.Order event.D k))
  ordered_is_ready n k small = record {
    version = h.version;
    declared = h.declared;
    commands = omega (arith, h.commands);
    scripted = omega (arith, h.scripted);
    asked = omega (arith, h.asked);
    steps = omega (arith, h.steps, small);
    microframes = h.microframes;
    opens = opens_none w.lines n (line.Order event.D k) refl ∙ h.opens;
  }

  pub micro_no_cause : (k : ℕ) → k ≤ 4000 → cause_of w (says.Micro k) ≡ None
  micro_no_cause k small =
      has_no_cause w (says.Micro k) refl refl refl (le-leb (w.microframes + k) 16384 (omega (arith, h.microframes, small)))

  pub micro_is_ready : (n k : ℕ) → opens_of (after w n (says.Micro k)).lines ≡ map (load_desc ds) (range_with_len 0 opened)
  micro_is_ready n k = opens_none w.lines n (line.Micro k) refl ∙ h.opens

  -- what an IN endpoint answers
  module _ (i : ℕ) (lt : i < 40) (x y : ℕ) (small : x ≤ 9000) (le : count ≤ 200) where
    reply_ranges : (b : Bool) → b ≡ true → device_ep w (ep_name (address i) b) ≡ Some (load_desc ds i)
        → reply_ranged w (ep_name (address i) b) (answers.Fill x y) ≡ true
    reply_ranges true e is =
        ap (λ (o : Option EpDesc). option_map_or (λ (d : EpDesc). can_answer way.In (answers.Fill x y) d.kind d.max) o
        (some_answer way.In (answers.Fill x y))) is
        ∙ le-leb x 65536 (omega (arith, small))
    reply_ranges false e is = cc

    pub reply_no_cause : is_in i ≡ true → cause_of w (says.Reply (load_name i) (answers.Fill x y)) ≡ None
    reply_no_cause e =
        has_no_cause w (says.Reply (load_name i) (answers.Fill x y)) (reply_ranges (is_in i) e (h.declared i lt)) (is_declared i lt) refl
        (le-leb (w.scripted + x) 4194304 (omega (arith, h.scripted, small, le)))

    pub reply_is_ready : (n : ℕ) → IsReady ds (count + 1) opened (after w n (says.Reply (load_name i) (answers.Fill x y)))
    reply_is_ready n = record {
      version = h.version;
      declared = λ j k. eps_stay w (load_name i) (load_name j) (answered (answers.Fill x y)) (λ e. refl) ∙ h.declared j k;
      commands = omega (arith, h.commands);
      scripted = omega (arith, h.scripted, small);
      asked = omega (arith, h.asked);
      steps = omega (arith, h.steps);
      microframes = h.microframes;
      opens = h.opens;
    }

  -- ---- commands

  module _ (i : ℕ) (lt : i < 40) (le : count ≤ 200) where
    may : nat_lt w.commands 4096 ≡ true
    may = lt-ltb w.commands 4096 (omega (arith, h.commands, le))

    pub open_no_cause : cause_of w (says.Open (load_name i)) ≡ None
    open_no_cause = has_no_cause w (says.Open (load_name i)) refl (is_declared i lt) refl may

    pub opens_it : (n : ℕ) → after w n (says.Open (load_name i)) ≡ commanded w n (cmd.OpenEp (load_desc ds i))
    opens_it n = ap (λ (o : Option EpDesc). option_map_or (λ d. commanded w n (cmd.OpenEp d)) o w) (known_is i lt)

    pub get_no_cause : (x : ℕ) → x ≤ 9000 → cause_of w (says.Get (record { name = load_name i; len = x; by = None })) ≡ None
    get_no_cause x small =
        has_no_cause w (says.Get (record { name = load_name i; len = x; by = None })) refl (is_declared i lt) refl
        (and_from (nat_lt w.commands 4096) (nat_le (w.asked + x) 4194304) may
        (le-leb (w.asked + x) 4194304 (omega (arith, h.asked, small, le))))

    pub put_no_cause : (x y : ℕ) → x ≤ 9000
        → cause_of w (says.Put (record { name = load_name i; content = content.Fill x y; by = None })) ≡ None
    put_no_cause x y small =
        has_no_cause w (says.Put (record { name = load_name i; content = content.Fill x y; by = None })) refl (is_declared i lt) refl
        (and_from (nat_lt w.commands 4096) (nat_le (w.scripted + x) 4194304) may
        (le-leb (w.scripted + x) 4194304 (omega (arith, h.scripted, small, le))))

    abbrev pub got : ℕ → ℕ → Draft
    got n x = commanded (record w { asked = counted w.asked x }) n (cmd.Get (name_of (load_name i)) x (by_of None))

    pub gets_it : (n x : ℕ) → after w n (says.Get (record { name = load_name i; len = x; by = None })) ≡ got n x
    gets_it n x = cond-true (is_some (known w (load_name i))) (got n x) w (is_declared i lt)

    pub got_is_ready : (n x : ℕ) → x ≤ 9000 → IsReady ds (count + 1) opened (got n x)
    got_is_ready n x small = record {
      version = h.version;
      declared = h.declared;
      commands = omega (arith, h.commands);
      scripted = omega (arith, h.scripted);
      asked = omega (arith, h.asked, small);
      steps = omega (arith, h.steps);
      microframes = h.microframes;
      opens = opens_none w.lines n _ refl ∙ h.opens;
    }

    abbrev pub was_put : ℕ → ℕ → ℕ → Draft
    was_put n x y =
        commanded (record w { scripted = counted w.scripted x; devices = put_room (load_name i) x w.devices }) n
        (cmd.Put (name_of (load_name i)) (filled x y) (by_of None))

    pub puts_it : (n x y : ℕ) → after w n (says.Put (record { name = load_name i; content = content.Fill x y; by = None })) ≡ was_put n x y
    puts_it n x y = cond-true (is_some (known w (load_name i))) (was_put n x y) w (is_declared i lt)

    room_stays : (x j : ℕ) → device_ep (record w { devices = put_room (load_name i) x w.devices }) (load_name j) ≡ device_ep w (load_name j)
    room_stays x j =
        cond_both (same_way (load_name i).way way.Out) (at_ep (load_name i) (roomier x) w.devices) w.devices
        (λ ds. device_ep (record w { devices = ds }) (load_name j) ≡ device_ep w (load_name j))
        (λ _. eps_stay w (load_name i) (load_name j) (roomier x) (λ e. refl)) (λ _. refl)

    pub put_is_ready : (n x y : ℕ) → x ≤ 9000 → IsReady ds (count + 1) opened (was_put n x y)
    put_is_ready n x y small = record {
      version = h.version;
      declared = λ j k. room_stays x j ∙ h.declared j k;
      commands = omega (arith, h.commands);
      scripted = omega (arith, h.scripted, small);
      asked = omega (arith, h.asked);
      steps = omega (arith, h.steps);
      microframes = h.microframes;
      opens = opens_none w.lines n _ refl ∙ h.opens;
    }

-- the endpoint that is opened next
pub opened_is_ready : (ds : List ℕ) (count i n : ℕ) (w : Draft) → IsReady ds count i w
    → IsReady ds (count + 1) (i + 1) (commanded w n (cmd.OpenEp (load_desc ds i)))
opened_is_ready ds count i n w h = record {
  version = h.version;
  declared = h.declared;
  commands = omega (arith, h.commands);
  scripted = omega (arith, h.scripted);
  asked = omega (arith, h.asked);
  steps = omega (arith, h.steps);
  microframes = h.microframes;
  opens = opens_next ds i w.lines n h.opens;
}
