-- One name for each module that opens all of its definitions, so that they compute: `unfolding settlings trying`.
use Rattle.form_laws.specs.Settled as S
use Rattle.form_laws.specs.Trials as T

unfoldable pub settlings : Unit {0}
unfolding S.settled S.then_scan S.scan S.settling S.if_built S.replacements S.none_true S.to_last S.gone_through
settlings = tt

unfoldable pub trying : Unit {0}
unfolding T.trials_for T.if_not_shown T.trials_made
trying = tt
