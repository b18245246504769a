-- What holds of each script that a text spells: its devices have addresses above 0, and it has at most 4096 commands (USB 2.0, 9.4.6).
use Rattle.std.proofs.Common.{◌≡◌, ℕ, suc, ◌+◌, ◌≤◌, ◌<◌, Bool, true, false, List, [], ◌∷◌, ◌++◌, length, min, filter_map, Option, Some, None, refl, sym, ap, subst, arith}
use Rattle.std.specs.Prelude.{◌==◌, ◌&&◌, not, nat_le, nat_lt, is_some, unwrap_or, if◌then◌else◌}
use Rattle.std.specs.List.{AllByRecursion}
use Rattle.std.specs.Option.{option_map_or}
use Rattle.std.proofs.lemmas.Bool.{cond_both, and_parts, leb-true}
use Rattle.law_common.proofs.Lists.{all_both}
use Rattle.usb_base.specs.declared.packets.Way.TheVariants as way
use Rattle.usb_base.specs.declared.endpoints.EpDesc.{EpDesc}
use Rattle.usb_base.specs.declared.commands.Cmd.{Cmd}
use Rattle.usb_base.specs.declared.commands.Cmd.TheVariants as cmd
use Rattle.script_types.specs.declared.scripts.Line.{Line}
use Rattle.script_types.specs.declared.scripts.Line.TheVariants as line
use Rattle.script_forms.specs.declared.causes.TextWhy.TheVariants as C
use Rattle.script_forms.specs.declared.statements.Name.{Name}
use Rattle.script_forms.specs.declared.statements.Statement.{Statement}
use Rattle.script_forms.specs.declared.statements.Statement.TheVariants as says
use Rattle.script_world.specs.Draft.{Draft, Placed, empty, device_of, known, same_way}
use Rattle.script_world.specs.Ranges.{in_range, within, is_endpoint, is_slots}
use Rattle.script_world.specs.Rows.{cause_of, has_room, may_command, may_script, is_known, is_twice, counted, roomier, at_ep, name_of, with_ep, content_bytes, content_len, bytes_len, commanded, where_known, put_room, control_name, by_of, after}
use Rattle.law_devices.proofs.Lists.{all_change, filter_skips, filter_takes}
use Rattle.claims_report.specs.Reports.{WholeReport}
use Rattle.usb_base.specs.declared.endpoints.EpName.{EpName}
use Rattle.claims_report.specs.Streams.{is_refused, command_in, accepted_in}
use Rattle.claims_report.specs.Requests.{Request, request_in}

-- ---- commands

abbrev pub command_count : Line → ℕ
command_count (line.Command c) = 1
command_count _ = 0

abbrev pub commands_in : List (ℕ × Line) → ℕ
commands_in [] = 0
commands_in (l ∷ ls) = command_count l.1 + commands_in ls

commands_append : (xs ys : List (ℕ × Line)) → commands_in (xs ++ ys) ≡ commands_in xs + commands_in ys
commands_append [] ys = omega arith
commands_append (x ∷ xs) ys = let k = commands_append xs ys in omega (arith, k)

-- ---- what holds after each line

abbrev pub IsAddressed : Placed → Type 0
IsAddressed d = 1 ≤ d.addr

pub record IsCounted (w : Draft) : Type 0 where
  pub addressed : AllByRecursion (λ d. 1 ≤ d.addr) w.devices
  pub commands : commands_in w.lines ≤ w.commands
  pub few : w.commands ≤ 4096

roomed_by : (a b c d : Bool)
    → (if not a then Some C.Range else if not b then Some C.Unknown else if c then Some C.Twice else if not d then Some C.Limit else None) ≡ None
    → d ≡ true
roomed_by false b c d h = cc
roomed_by true false c d h = cc
roomed_by true true true d h = cc
roomed_by true true false false h = cc
roomed_by true true false true h = refl

has_its_room : (w : Draft) (s : Statement) → cause_of w s ≡ None → has_room w s ≡ true
has_its_room w s e = roomed_by (in_range w s) (is_known w s) (is_twice w s) (has_room w s) e

below : (n m : ℕ) → nat_lt n m ≡ true → n < m
below n m e = leb-true (suc n) m e

more : (n k : ℕ) → n ≤ k → k < 4096 → (n + 1 ≤ min (k + 1) 4294967295) × (min (k + 1) 4294967295 ≤ 4096)
more n k few low = (omega (arith, few, low), omega (arith, few, low))

commanded_counted : (w : Draft) (n : ℕ) (c : Cmd) → may_command w ≡ true → IsCounted w → IsCounted (commanded w n c)
commanded_counted w n c room h =
    let z = more (commands_in w.lines) w.commands h.commands (below w.commands 4096 room) in
    let join = commands_append w.lines ((n, line.Command c) ∷ []) in
    let low = z.0 in
    record { addressed = h.addressed; commands = omega (arith, low, join); few = z.1 }

other_counted : (w : Draft) (l : ℕ × Line) → command_count l.1 ≡ 0 → IsCounted w → (v : Draft) → v.devices ≡ w.devices → v.lines ≡ w.lines ++ l ∷ [] → v.commands ≡ w.commands → IsCounted v
other_counted w l none h v devices lines commands =
    let join = commands_append w.lines (l ∷ []) in
    let few = h.commands in
    record {
      addressed = subst (AllByRecursion (λ (d : Placed). 1 ≤ d.addr)) (sym devices) h.addressed;
      commands = subst (λ (xs : List (ℕ × Line)). commands_in xs ≤ v.commands) (sym lines) (subst (λ (k : ℕ). commands_in (w.lines ++ l ∷ []) ≤ k) (sym commands) (omega (arith, few, join, none)));
      few = subst (λ (k : ℕ). k ≤ 4096) (sym commands) h.few;
    }

where_counted : (w : Draft) (name : Name) (v : Draft) → IsCounted w → IsCounted v → IsCounted (where_known w name v)
where_counted w name v h k = cond_both (is_some (known w name)) v w IsCounted (λ _. k) (λ _. h)

opened_counted : (w : Draft) (n : ℕ) (o : Option EpDesc) → may_command w ≡ true → IsCounted w → IsCounted (option_map_or (λ d. commanded w n (cmd.OpenEp d)) o w)
opened_counted w n None room h = h
opened_counted w n (Some x) room h = commanded_counted w n (cmd.OpenEp x) room h

-- ---- devices

above : (addr : ℕ) → within 1 127 addr ≡ true → 1 ≤ addr
above addr e = leb-true 1 addr (and_parts (nat_le 1 addr) (nat_le addr 127) e).0

room_addressed : (name : Name) (n : ℕ) (ds : List Placed) → AllByRecursion IsAddressed ds → AllByRecursion IsAddressed (put_room name n ds)
room_addressed name n ds h =
    cond_both (same_way name.way way.Out) (at_ep name (roomier n) ds) ds (AllByRecursion IsAddressed) (λ _. all_change IsAddressed (λ d. d.addr == name.addr) _ ds (λ d at k. k) h) (λ _. h)

-- ---- any line

pub after_counted : (w : Draft) (n : ℕ) (s : Statement) → cause_of w s ≡ None → IsCounted w → IsCounted (after w n s)
after_counted w n (says.Hub addr ports multi) e h =
    cond_both (within 1 127 addr && within 1 15 ports) _ w IsCounted (λ _. record { addressed = h.addressed; commands = h.commands; few = h.few }) (λ _. h)
after_counted w n (says.DevHigh addr) e h =
    cond_both (within 1 127 addr) _ w IsCounted (λ in_field. record { addressed = all_both IsAddressed w.devices _ h.addressed (above addr in_field, tt); commands = h.commands; few = h.few }) (λ _. h)
after_counted w n (says.DevBelow b) e h =
    cond_both (within 1 127 b.addr && nat_le b.hub 127 && is_known w (says.DevBelow b)) _ w IsCounted
    (λ in_field. record {
      addressed =
          all_both IsAddressed w.devices _ h.addressed
          (above b.addr (and_parts (within 1 127 b.addr) (nat_le b.hub 127) (and_parts (within 1 127 b.addr && nat_le b.hub 127) (is_known w (says.DevBelow b)) in_field).0).0, tt);
      commands = h.commands;
      few = h.few;
    })
    (λ _. h)
after_counted w n (says.Ep l) e h =
    cond_both (is_endpoint l && is_some (device_of w.devices l.name.addr)) _ w IsCounted
    (λ _. record { addressed = all_change IsAddressed (λ d. d.addr == l.name.addr) (with_ep l) w.devices (λ d at k. k) h.addressed; commands = h.commands; few = h.few }) (λ _. h)
after_counted w n (says.Reply name a) e h = record { addressed = all_change IsAddressed (λ d. d.addr == name.addr) _ w.devices (λ d at k. k) h.addressed; commands = h.commands; few = h.few }
after_counted w n (says.Fate f) e h = where_counted w f.name _ h (record { addressed = h.addressed; commands = h.commands; few = h.few })
after_counted w n (says.Stuff name p) e h =
    cond_both (nat_le p 6) _ w IsCounted
    (λ _. where_counted w name _ h (record {
      addressed = all_change IsAddressed (λ d. d.addr == name.addr) _ w.devices (λ d at k. k) h.addressed;
      commands = h.commands;
      few = h.few;
    }))
    (λ _. h)
after_counted w n (says.Open name) e h = opened_counted w n (known w name) (has_its_room w (says.Open name) e) h
after_counted w n (says.Cancel name) e h = where_counted w name _ h (commanded_counted w n (cmd.Cancel (name_of name)) (has_its_room w (says.Cancel name) e) h)
after_counted w n (says.Clear name) e h = where_counted w name _ h (commanded_counted w n (cmd.Clear (name_of name)) (has_its_room w (says.Clear name) e) h)
after_counted w n (says.Get l) e h =
    let room = has_its_room w (says.Get l) e in
    where_counted w l.name _ h
    (commanded_counted (record w { asked = counted w.asked l.len }) n (cmd.Get (name_of l.name) l.len (by_of l.by)) (and_parts (may_command w) (nat_le (w.asked + l.len) 4194304) room).0
    (record { addressed = h.addressed; commands = h.commands; few = h.few }))
after_counted w n (says.Put l) e h =
    let room = has_its_room w (says.Put l) e in
    where_counted w l.name _ h
    (commanded_counted (record w { scripted = counted w.scripted (content_len l.content); devices = put_room l.name (content_len l.content) w.devices }) n
    (cmd.Put (name_of l.name) (content_bytes l.content) (by_of l.by)) (and_parts (may_command w) (may_script w (content_len l.content)) room).0
    (record { addressed = room_addressed l.name (content_len l.content) w.devices h.addressed; commands = h.commands; few = h.few }))
after_counted w n (says.Control c) e h =
    let room = has_its_room w (says.Control c) e in
    where_counted w (control_name c.addr) _ h
    (commanded_counted (record w { scripted = counted w.scripted (bytes_len c.bytes) }) n (cmd.Control (name_of (control_name c.addr)) c.setup (unwrap_or c.bytes []))
    (and_parts (may_command w) (may_script w (bytes_len c.bytes)) room).0 (record { addressed = h.addressed; commands = h.commands; few = h.few }))
after_counted w n (says.Iso l) e h =
    cond_both (is_slots l) _ w IsCounted (λ _. where_counted w l.name _ h (commanded_counted w n (cmd.Iso (name_of l.name) l.count l.len l.seed) (has_its_room w (says.Iso l) e) h)) (λ _. h)
after_counted w n (says.Order event k) e h = other_counted w (n, line.Order event k) refl h _ refl refl refl
after_counted w n (says.Micro k) e h = other_counted w (n, line.Micro k) refl h _ refl refl refl
after_counted w n _ e h = record { addressed = h.addressed; commands = h.commands; few = h.few }

pub empty_counted : IsCounted empty
empty_counted = record { addressed = tt; commands = omega arith; few = omega arith }

-- ---- requests

is_command : (b : Bool) (l : Line) (c : Cmd) → (if b then None else command_in l) ≡ Some c → command_count l ≡ 1
is_command true l c e = cc
is_command false (line.Command x) c e = refl
is_command false (line.Order event n) c e = cc
is_command false (line.Micro n) c e = cc
is_command false (line.Plug n) c e = cc
is_command false (line.Unplug n) c e = cc

module _ (r : WholeReport) (name : EpName) where
  abbrev asked : List Cmd → ℕ
  asked cs = length (filter_map (request_in name) cs)

  asked_more : (c : Cmd) (cs : List Cmd) (o : Option Request) → request_in name c ≡ o → asked (c ∷ cs) ≤ 1 + asked cs
  asked_more c cs None is = let same = ap (λ (qs : List Request). length qs) (filter_skips (request_in name) c cs is) in omega (arith, same)
  asked_more c cs (Some q) is = let same = ap (λ (qs : List Request). length qs) (filter_takes (request_in name) c cs q is) in omega (arith, same)

  line_few : (l : ℕ × Line) (ls : List (ℕ × Line)) (o : Option Cmd) → accepted_in r l ≡ o → asked (filter_map (accepted_in r) ls) ≤ commands_in ls
      → asked (filter_map (accepted_in r) (l ∷ ls)) ≤ command_count l.1 + commands_in ls
  line_few l ls None is few = let same = ap asked (filter_skips (accepted_in r) l ls is) in omega (arith, same, few)
  line_few l ls (Some c) is few =
      let same = ap asked (filter_takes (accepted_in r) l ls c is) in
      let one = is_command (is_refused r l.0) l.1 c is in
      let most = asked_more c (filter_map (accepted_in r) ls) (request_in name c) refl in
      omega (arith, same, one, most, few)

  pub asked_few : (ls : List (ℕ × Line)) → length (filter_map (request_in name) (filter_map (accepted_in r) ls)) ≤ commands_in ls
  asked_few [] = omega arith
  asked_few (l ∷ ls) = line_few l ls (accepted_in r l) refl (asked_few ls)
