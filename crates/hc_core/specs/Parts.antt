-- The parts of a controller (EHCI 1.0, 4.6).
use Rattle.async_walk.specs.Walk.{Walk}
use Rattle.periodic_walk.specs.Walk.{Walk as FrameWalk}
use Rattle.hc_core.specs.declared.controller.MicroframePart.{MicroframePart}
use Rattle.hc_core.specs.Controller.{Control}

abbrev pub of_parts : MicroframePart → FrameWalk → Walk → Control
of_parts part frame walk = record { part = part; frame = frame; walk = walk }
