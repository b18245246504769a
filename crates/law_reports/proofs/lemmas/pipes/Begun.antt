-- What moved of each endpoint that is there begins its stream, whether it is met or left the ring.
use Rattle.std.proofs.Common.{◌≡◌, ℕ, ◌*◌, Bool, true, false, List, [], slice_get, Some, ap, sym, subst, ◌∙◌, ⊎_elim}
use Rattle.std.specs.List.{concat}
use Rattle.std.proofs.lemmas.Bool.{cases_Bool, true≢false}
use Rattle.std.proofs.lemmas.List.{append-nil}
use Rattle.usb_base.specs.declared.packets.Way.{Way}
use Rattle.usb_base.specs.declared.packets.Way.TheVariants as ways
use Rattle.qh_qtd.specs.declared.queue_head.Qh.{Qh}
use Rattle.bus_wire.specs.Bus.{Fixed, Wired}
use Rattle.claims_base.specs.Prefix.{IsPrefix}
use Rattle.drv_table.specs.declared.content.Endpoint.{Endpoint}
use Rattle.law_structures.specs.lent_structures.Structures.{Structures}
use Rattle.law_ring.specs.Hand.{Hand}
use Rattle.law_ring.specs.Told.{Endpoint as Told}
use Rattle.law_ring.specs.OutBus.{Taker}
use Rattle.law_ring.specs.OutPipes.{OutAgrees, level, ahead, ended}
use Rattle.law_ring.proofs.PipeAgreeing.{accepted_bytes_begin_each_stream}
use Rattle.law_driver.specs.endpoint_lives.Lives.{may_meet}
use Rattle.law_driver.specs.queued_drivers.Queued.{queued_endpoint, queued}
use Rattle.law_driver_ring.specs.fed_queues.Places.{IsThere, IsMet}
use Rattle.law_devices.specs.Senders.{sender_of}
use Rattle.law_devices.specs.scripted_takers.Takers.{taker_of}
use Rattle.law_world.specs.steps.Streaming.{wired}
use Rattle.law_world.specs.memory.Mixed.{Standing}
use Rattle.law_world.specs.memory.pipe_steps.Pipes.{AsksTheWay}
use Rattle.law_reports.specs.lines.Lined.{in_hand, Lines}
use Rattle.bus_world.specs.World.{World}
use Rattle.law_reports.specs.pipes.Declared.{Sides}
use Rattle.law_reports.specs.pipes.Piped.{Heads, asked_as, HasTakenAtLeast, HasBegun, AreLeft, IsPiped}
use Rattle.law_reports.proofs.lemmas.pipes.Names.{by_real}

agrees_begins : (part : Structures) (hand : Hand) (n : ℕ) (q : Qh) (h : Bool) (known : List ℕ) (t : Taker)
    → OutAgrees part hand n q h known t
    → IsPrefix known t.taken
agrees_begins part hand n q h known t (level expects taken) = ([], append-nil known ∙ sym taken)
agrees_begins part hand n q h known t (ahead more expects taken own active next unmoved) = (more, sym taken)
agrees_begins part hand n q h known t (ended more expects taken active halted) = (more, sym taken)

module _ (fixed : Fixed) (x : Sides) (s : Standing) (m : Lines) (h : Heads) (w : World) (k : IsPiped fixed x s m h w) where
  abbrev wire : Wired
  wire = wired fixed w

  module _ (e : ℕ) (y : Endpoint) (here : slice_get w.driver.endpoints e ≡ Some y)
      (met : IsMet (queued w.driver) e (queued_endpoint y)) where
    pub named : h.ends (32 * y.queue) ≡ asked_as y.desc
    named = k.named e y here met

    asks : (way : Way) → y.desc.name.way ≡ way → AsksTheWay x.sends x.takes h.ins h.outs h.ends (32 * y.queue) way
    asks way is =
        subst (AsksTheWay x.sends x.takes h.ins h.outs h.ends (32 * y.queue)) is
        (by_real w.driver x.sends x.takes h.ins h.outs h.ends k.by_way e y here met)

    pub on_ins : y.desc.name.way ≡ ways.In → x.sends y.desc.name.addr y.desc.name.num ≡ true → h.ins (32 * y.queue) ≡ true
    on_ins is on =
        ⊎_elim (λ (its : h.ins (32 * y.queue) ≡ true). its)
        (λ (none : x.sends (h.ends (32 * y.queue)).addr (h.ends (32 * y.queue)).ep ≡ false).
        absurd (true≢false (sym on ∙ ap (λ (u : Told). x.sends u.addr u.ep) (sym named) ∙ none))) (asks ways.In is).1

    pub on_outs : y.desc.name.way ≡ ways.Out → x.takes y.desc.name.addr y.desc.name.num ≡ true → h.outs (32 * y.queue) ≡ true
    on_outs is on =
        ⊎_elim (λ (its : h.outs (32 * y.queue) ≡ true). its)
        (λ (none : x.takes (h.ends (32 * y.queue)).addr (h.ends (32 * y.queue)).ep ≡ false).
        absurd (true≢false (sym on ∙ ap (λ (u : Told). x.takes u.addr u.ep) (sym named) ∙ none))) (asks ways.Out is).1

    met_in : y.desc.name.way ≡ ways.In → x.sends y.desc.name.addr y.desc.name.num ≡ true
        → HasBegun x wire ways.In y.desc.name.addr y.desc.name.num (concat (m.acc (32 * y.queue)))
    met_in is on =
        subst (λ (u : Told). IsPrefix (concat (m.acc (32 * y.queue))) (concat (x.packets u.addr u.ep))) named
        (accepted_bytes_begin_each_stream x.sends x.packets sender_of s.near h.ins h.ends m.acc s.parts (in_hand s) (wired fixed w)
        (32 * y.queue)
        k.pipes.in_pipes (on_ins is on))

    met_out : y.desc.name.way ≡ ways.Out → x.takes y.desc.name.addr y.desc.name.num ≡ true
        → HasBegun x wire ways.Out y.desc.name.addr y.desc.name.num (concat (m.acc (32 * y.queue)))
    met_out is on =
        let p = k.pipes.out_pipes.pipes (32 * y.queue) (on_outs is on) in
        subst (λ (u : Told). HasTakenAtLeast (taker_of wire u.addr u.ep) (concat (m.acc (32 * y.queue)))) named (record {
          taker = p.taker;
          is = p.is;
          begins = agrees_begins (s.parts (32 * y.queue)) (in_hand s) (32 * y.queue) p.expects.queue p.toggle
              (concat (m.acc (32 * y.queue))) p.taker p.agrees;
        })

  met_by : (e : ℕ) (y : Endpoint) → IsThere (queued w.driver) (queued_endpoint y) → may_meet (queued w.driver) e (queued_endpoint y) ≡ true
      → IsMet (queued w.driver) e (queued_endpoint y)
  met_by e y there near = record { there = there; near = near }

  pub ins_begun : AreLeft w.driver m.acc ways.In x.sends (HasBegun x (wired fixed w) ways.In) → (e : ℕ) (y : Endpoint)
      → slice_get w.driver.endpoints e ≡ Some y → y.desc.name.way ≡ ways.In → x.sends y.desc.name.addr y.desc.name.num ≡ true
      → IsThere (queued w.driver) (queued_endpoint y)
      → HasBegun x (wired fixed w) ways.In y.desc.name.addr y.desc.name.num (concat (m.acc (32 * y.queue)))
  ins_begun left e y here is on there =
      ⊎_elim (λ (near : may_meet (queued w.driver) e (queued_endpoint y) ≡ true). met_in e y here (met_by e y there near) is on)
      (λ (off : may_meet (queued w.driver) e (queued_endpoint y) ≡ false). left.unmet e y here is on there off)
      (cases_Bool (may_meet (queued w.driver) e (queued_endpoint y)))

  pub outs_begun : AreLeft w.driver m.acc ways.Out x.takes (HasBegun x (wired fixed w) ways.Out) → (e : ℕ) (y : Endpoint)
      → slice_get w.driver.endpoints e ≡ Some y → y.desc.name.way ≡ ways.Out → x.takes y.desc.name.addr y.desc.name.num ≡ true
      → IsThere (queued w.driver) (queued_endpoint y)
      → HasBegun x (wired fixed w) ways.Out y.desc.name.addr y.desc.name.num (concat (m.acc (32 * y.queue)))
  outs_begun left e y here is on there =
      ⊎_elim (λ (near : may_meet (queued w.driver) e (queued_endpoint y) ≡ true). met_out e y here (met_by e y there near) is on)
      (λ (off : may_meet (queued w.driver) e (queued_endpoint y) ≡ false). left.unmet e y here is on there off)
      (cases_Bool (may_meet (queued w.driver) e (queued_endpoint y)))
