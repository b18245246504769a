-- A bus below a hub shows the line of an IN endpoint, whatever is asked on it.
use Rattle.std.proofs.Common.{◌≡◌, ℕ, Bool, true, false, not, List, Some, refl, sym, subst, ap, ◌∙◌}
use Rattle.usb_base.specs.declared.packets.Ask.{Ask}
use Rattle.usb_base.specs.declared.packets.Dir.{Dir}
use Rattle.usb_base.specs.declared.packets.Dir.TheVariants as Directions
use Rattle.usb_base.specs.declared.packets.EpKind.{EpKind}
use Rattle.usb_base.specs.declared.packets.Pid.{Pid}
use Rattle.usb_base.specs.declared.packets.Pid.TheVariants as Pids
use Rattle.usb_base.specs.declared.packets.Reply.{Reply}
use Rattle.usb_base.specs.declared.packets.Reply.TheVariants.{Silent, Bytes, Hand}
use Rattle.toggle_error.specs.Columns.{expected_pid}
use Rattle.hub_keys.specs.Asks.{classic_of}
use Rattle.hub_keys.specs.Keys.{key_of, is_same_key, direction_of}
use Rattle.hub_keys.specs.declared.key.Key.{Key}
use Rattle.tt_bulk.specs.Contents.{Taken}
use Rattle.bus_wire.specs.Fixed.{Fixed}
use Rattle.bus_wire.specs.Below.{Below}
use Rattle.law_ring.specs.Bus.{Sender, is_data, Answers, HasAnswered, nothing_heard, unacknowledged, acknowledged}
use Rattle.law_translated.specs.Lift.{Way, Buffered, Piped}
use Rattle.law_translated.specs.InPipes.{Line, Works, in_halves, dead}
use Rattle.law_translated.specs.InPipes as Pipe
use Rattle.law_translated.specs.InPipes.Works.{unacknowledged as not_known, acknowledged as known, refuses, stalls}
use Rattle.law_translated.specs.KeySteps.{is_answer, dead_reply}
use Rattle.law_translated.specs.KeyEvents.{Follows}
use Rattle.law_translated.proofs.Keys.{same_as_itself}
use Rattle.law_below_hubs.specs.Raised.{transacts_below}
use Rattle.law_below_hubs.specs.Seated.{sender_on}
use Rattle.law_below_hubs.specs.RightAsks.{Rightly}
use Rattle.law_below_hubs.specs.HubsKeys.{IsOfKind, is_second}
use Rattle.law_below_hubs.specs.InWork.{in_asked, in_answer, sender_of_line, ShowsSender}
use Rattle.law_below_hubs.proofs.LowBuses.{same_below, all_senders_below}

make : ℕ → ℕ → Dir → EpKind → Key
make addr ep dir kind = record { addr = addr; ep = ep; dir = dir; kind = kind }

made_of : (a : Key) → make a.addr a.ep a.dir a.kind ≡ a
unfolding make
made_of a = refl

-- keys with the same parts are one
pub key_is : (ask : Ask) (k : Key) → ask.addr ≡ k.addr → ask.ep ≡ k.ep → direction_of ask.pid ≡ k.dir → ask.kind ≡ k.kind → key_of ask ≡ k
key_is ask k addr ep dir kind =
    let m1 = made_of (key_of ask) in let m2 = made_of k in
    let e1 : (key_of ask).addr ≡ k.addr = addr in
    let e2 : (key_of ask).ep ≡ k.ep = ep in
    let e3 : (key_of ask).dir ≡ k.dir = dir in
    let e4 : (key_of ask).kind ≡ k.kind = kind in
    cc

abbrev pub always : ℕ → ℕ → Bool
always addr ep = true

in_of : (pid : Pid) → direction_of pid ≡ Directions.In → pid ≡ Pids.In
in_of Pids.In h = refl
in_of _ h = absurd cc

pub second_of : (b : Bool) → is_second (expected_pid b) ≡ b
second_of false = refl
second_of true = refl

-- an answer without data
no_data_works : (l : Line) (way : Way) (r : Reply) → is_data r ≡ false → is_answer way r ≡ true → Works l Pipe.In (in_answer r) l
no_data_works l Buffered Silent n h = absurd cc
no_data_works l Piped Silent n h = absurd cc
no_data_works l way (Bytes pid bytes) n h = absurd cc
no_data_works l way (Hand Pids.Stall) n h = stalls
no_data_works l Buffered (Hand Pids.Err) n h = absurd cc
no_data_works l Piped (Hand Pids.Err) n h = absurd cc
no_data_works l way (Hand _) n h = refuses

data_answers : (way : Way) (pid : Pid) (bytes : List ℕ) → is_answer way (Bytes pid bytes) ≡ true
data_answers Buffered pid bytes = refl
data_answers Piped pid bytes = refl

module _ (fixed : Fixed) (k : Key) (inward : k.dir ≡ Directions.In) where
  abbrev Shows : Below → Line → Type 0
  Shows = ShowsSender fixed k

  abbrev Asks : Below → Ask → List ℕ → Reply → Below → Type 0
  Asks = Rightly (IsOfKind k) transacts_below

  -- the key's own transaction
  answered : (w : Below) (l : Line) (a : Taken) (r : Reply) (v : Below) → key_of a.ask ≡ k → Shows w l
      → Asks w (classic_of a.ask) a.packet r v
      → HasAnswered (classic_of a.ask) (sender_of_line l) r (sender_on v k.addr k.ep)
  answered w l a r v own shows made =
      let addr : a.ask.addr ≡ k.addr = ap (λ (c : Key). c.addr) own in
      let ep : a.ask.ep ≡ k.ep = ap (λ (c : Key). c.ep) own in
      let pid : a.ask.pid ≡ Pids.In = in_of a.ask.pid (ap (λ (c : Key). c.dir) own ∙ inward) in
      let here : sender_on w a.ask.addr a.ask.ep ≡ Some (sender_of_line l) =
      ap (λ (x : ℕ). sender_on w x a.ask.ep) addr ∙ ap (sender_on w k.addr) ep ∙ shows.sender in
      subst (HasAnswered (classic_of a.ask) (sender_of_line l) r) (ap (λ (x : ℕ). sender_on v x a.ask.ep) addr ∙ ap (sender_on v k.addr) ep)
      ((all_senders_below always).asked w (classic_of a.ask) a.packet r v (sender_of_line l) made.0
      (record { plain = refl; token = pid; on = refl }) here)

  same_fixed : (w v : Below) (l : Line) (ask : Ask) (out : List ℕ) (r : Reply) → Shows w l → Asks w ask out r v → v.fixed ≡ fixed
  same_fixed w v l ask out r shows made = (same_below w v ask out made.0.after).fixed ∙ shows.same

  by_answer : (l : Line) (ask : Ask) (way : Way) (r : Reply) (t : Sender) (v : Below) → Answers ask (sender_of_line l) r t
      → is_answer way r ≡ true
      → v.fixed ≡ fixed → sender_on v k.addr k.ep ≡ Some t → (m : Line) × Works l Pipe.In (in_answer r) m × Shows v m
  by_answer l ask way r _ v (nothing_heard _ no_data) heard same at =
      (l, no_data_works l way r no_data heard, record { same = same; sender = at })
  by_answer l ask way _ _ v (unacknowledged x rest left) heard same at = (
    l,
    subst (λ (b : Bool). Works l Pipe.In (Pipe.Data b x) l) (sym (second_of l.sends)) (not_known x rest left),
    record { same = same; sender = at },
  )
  by_answer l ask way _ _ v (acknowledged x rest left fits) heard same at = (
    record l { left = rest; sends = not l.sends },
    subst (λ (b : Bool). Works l Pipe.In (Pipe.Data b x) (record l { left = rest; sends = not l.sends })) (sym (second_of l.sends))
        (known x rest left),
    record { same = same; sender = at },
  )

  by_silence : (l : Line) (ask : Ask) (way : Way) (r : Reply) (t : Sender) → Answers ask (sender_of_line l) r t → is_answer way r ≡ false
      → t ≡ sender_of_line l
  by_silence l ask way r _ (nothing_heard _ no_data) heard = refl
  by_silence l ask way _ _ (unacknowledged x rest left) heard = refl
  by_silence l ask way _ _ (acknowledged x rest left fits) heard =
      absurd (let z : true ≡ false = sym (data_answers way (expected_pid l.sends) x) ∙ heard in cc)

  pub in_follows : (way : Way) → Follows in_halves in_asked in_answer Asks way k Shows
  in_follows way = record {
    works = λ w l a r v own shows made heard.
        let h = answered w l a r v own shows made in
        by_answer l (classic_of a.ask) way r h.sender v h.answers heard (same_fixed w v l (classic_of a.ask) a.packet r shows made) h.is;
    quiet = λ w l a r v own shows made heard.
        let h = answered w l a r v own shows made in (
          l,
          refl,
          record {
            same = same_fixed w v l (classic_of a.ask) a.packet r shows made;
            sender = h.is ∙ ap (λ (t : Sender). Some t) (by_silence l (classic_of a.ask) way r h.sender h.answers heard);
          },
        );
    others = λ w l ask out r v apart shows made. record {
      same = same_fixed w v l (classic_of ask) out r shows made;
      sender = (all_senders_below always).others w (classic_of ask) out r v k.addr k.ep (sender_of_line l) made.0 refl shows.sender
          (λ s at. own_key ask apart s.token at.0 at.1 made.1);
    };
    dead = dies way;
  }
    where
      dies : (way : Way) → in_answer (dead_reply way) ≡ dead way
      dies Buffered = refl
      dies Piped = refl

      own_key : (ask : Ask) → is_same_key (key_of ask) k ≡ false → ask.pid ≡ Pids.In → k.addr ≡ ask.addr → k.ep ≡ ask.ep
          → IsOfKind k (classic_of ask) → ⊥
      own_key ask apart token addr ep kind =
          let dir : direction_of ask.pid ≡ k.dir = ap direction_of token ∙ sym inward in
          let same : key_of ask ≡ k = key_is ask k (sym addr) (sym ep) dir (kind dir (sym addr) (sym ep)) in
          let on : is_same_key (key_of ask) k ≡ true =
          subst (λ (c : Key). is_same_key (key_of ask) c ≡ true) same (same_as_itself (key_of ask)) in
          let z : true ≡ false = sym on ∙ apart in cc
