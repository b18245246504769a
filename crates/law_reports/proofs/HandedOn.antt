-- Laws of worlds and of microframes as the top call takes them: it stands on this crate alone, and so has fewer ways down.
pub use Rattle.law_microframes.proofs.lemmas.due.Together.{texts_keep_due}
pub use Rattle.law_microframes.proofs.lemmas.due.lemmas.repeats.RepeatMoments.{texts_repeat_after_losses}
pub use Rattle.law_microframes.proofs.lemmas.due.lemmas.sitds.Moments.{texts_serve_sitds}
pub use Rattle.law_microframes.proofs.lemmas.due.lemmas.slots.Moments.{texts_serve_slots}
pub use Rattle.law_microframes.proofs.lemmas.time.PaymentTimes.{texts_pay_within_load, texts_are_in_time}
pub use Rattle.law_microframes.proofs.lemmas.time.TurnTexts.{texts_end_microframes, texts_carry_out_all}
pub use Rattle.law_microframes.proofs.lemmas.translators.TurnsTexts.{texts_keep_translators}
pub use Rattle.law_microframes.proofs.lemmas.visits.Together.{texts_keep_visits}
pub use Rattle.law_world.proofs.lemmas.memory.LetGo.{scripts_give_back_last}
pub use Rattle.law_world.proofs.lemmas.memory.LinksHeld.{texts_keep_links}
pub use Rattle.law_world.proofs.lemmas.memory.OwnMoments.{texts_keep_to_owners}
pub use Rattle.law_world.proofs.lemmas.memory.ReachMoments.{texts_reach_lent}
pub use Rattle.law_world.proofs.lemmas.memory.Together.{texts_keep_memory}
pub use Rattle.law_world.proofs.lemmas.memory.Untouched.{scripts_leave_what_is_back}
pub use Rattle.law_world.proofs.lemmas.memory.lemmas.owned_blocks.Worlds.{each_moment_owns_its_blocks}
pub use Rattle.law_world.proofs.lemmas.memory.lemmas.world_frames.Moments.{script_scheduled}
pub use Rattle.law_world.proofs.lemmas.memory.lemmas.worlds_keep_to_lent.Moments.{each_moment_keeps_to_lent_blocks}
