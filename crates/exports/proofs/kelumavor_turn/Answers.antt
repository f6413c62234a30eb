use mathlib.Core.Path.{refl}
use Rattle.exports.proofs.Serving.{turned_words, served_none, served_one, turn_short, turn_long}
use Rattle.exports.proofs.kelumavor_turn.Goals as goal

pub returns-then-report-lt-COUNT : goal.returns-then-report-lt-COUNT
returns-then-report-lt-COUNT c =
    let t = (
    let s = c.args in
    turn_short s.state.now s.words.now s.area.now s.report.now _ _ _ _ c.if-report-lt-COUNT.true
    (record { none = refl; state = refl; area = refl; report = refl })) in
    record { served = t.0; unserved = t.1 }

pub returns-in_default : goal.returns-in_default
returns-in_default c =
    let t = (
    let s = c.args in
    let k = turned_words s.state.now _ _ _ c.windows_of.ensures c.words_of.ensures _ _ _ _ c.turn_in-turned.ensures in
    turn_long s.state.now s.words.now s.area.now s.report.now _ _ _ _ c.if-report-lt-COUNT.false
    (served_none s.state.now s.words.now s.area.now _ _ s.report.now k c.in_default.is)) in
    record { served = t.0; unserved = t.1 }

pub returns : goal.returns
returns c =
    let t = (
    let s = c.args in
    let k = turned_words s.state.now _ _ _ c.windows_of.ensures c.words_of.ensures _ _ _ _ c.turn_in-turned.ensures in
    turn_long s.state.now s.words.now s.area.now s.report.now _ _ _ _ c.if-report-lt-COUNT.false
    (served_one s.state.now s.words.now s.area.now _ _ s.report.now k c.in-Some.is
    _ _ c.write_report.ensures)) in
    record { served = t.0; unserved = t.1 }
