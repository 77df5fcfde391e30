use Rattle.trac_c.proofs.Imports.{rules, ap, ◌∙◌, ◌++◌, take, stream_in, SomeTurned, turn_number, wanted_by}
use Rattle.trac_c.specs.Held.{listed}
use Rattle.trac_c.specs.Turns.{is_ended}
use Rattle.trac_c.proofs.Again.{told-again}
use Rattle.trac_c.proofs.Further.{tells}
use Rattle.trac_c.proofs.TurnBytes.{between, told_full, written-front}
use Rattle.trac_c.proofs.turn.take_turn.Goals as goal

pub returns : goal.returns
returns c =
    record {
      settings = c.go_on-last.ensures.settings;
      turn = λ going. (
        c.go_on-last.result,
        (
          stream_in c.go_on-last.new.source.slice,
          tells _ _ _ _ _ _ _ _ _ going
              (between (λ old new. SomeTurned (is_ended c.args.ended) c.args.most old c.go_on-last.result new) _ _ _ _ (ap stream_in c.new-source.ensures)
              (λ i. take (c.new-sink.ensures.empty.0 i) c.new-sink.result.room.now ++ listed (c.new-sink.ensures.empty.1 i))
              (written-front c.go_on-last.new.sink _ _ c.go_on-last.ensures.fits (search rules) c.len.ensures.len)
              (c.go_on-last.ensures.turned going))
              c.turn_number.ensures c.steps.ensures c.peak.ensures
              (search rules) (search rules) (search rules)
              (λ printed full. told_full printed c.go_on-last.new.machine c.go_on-last.new.sink _ _ (search rules) c.len.ensures.len (c.go_on-last.ensures.full printed full))
              c.go_on-last.ensures.waits,
        ),
      );
      over = λ fate over.
          let again = c.go_on-last.ensures.over fate over in (
            again.1,
            told-again c.args.most fate c.args.machine.now _ (c.turn_number.ensures ∙ ap turn_number again.0)
                (c.peak.ensures ∙ ap (λ m. m.peak) again.1) (c.steps.ensures ∙ ap (λ m. m.steps) again.1)
                (c.len.ensures.len ∙ again.3 ∙ c.new-sink.ensures.empty.0, search rules) (c.wanted.ensures ∙ ap wanted_by again.0),
          );
    }
