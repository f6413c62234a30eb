use Rattle.join.proofs.Laws.{fits_words, fits_names, fits_crates, fits_modules, fits_definitions, fits_room}
use Rattle.join.proofs.fits.Goals as goal

pub returns-then-words-gt-SNAPSHOT : goal.returns-then-words-gt-SNAPSHOT
returns-then-words-gt-SNAPSHOT c =
    fits_words c.args.words c.args.names c.args.crates c.args.modules c.args.definitions c.args.room c.if-words-gt-SNAPSHOT.true

pub returns-then-names-gt-LIMIT : goal.returns-then-names-gt-LIMIT
returns-then-names-gt-LIMIT c =
    fits_names c.args.words c.args.names c.args.crates c.args.modules c.args.definitions c.args.room
    c.if-words-gt-SNAPSHOT.false c.if-names-gt-LIMIT.true

pub returns-then-crates-gt-LIMIT : goal.returns-then-crates-gt-LIMIT
returns-then-crates-gt-LIMIT c =
    fits_crates c.args.words c.args.names c.args.crates c.args.modules c.args.definitions c.args.room
    c.if-words-gt-SNAPSHOT.false c.if-names-gt-LIMIT.false c.if-crates-gt-LIMIT.true

pub returns-then-modules-gt-LIMIT : goal.returns-then-modules-gt-LIMIT
returns-then-modules-gt-LIMIT c =
    fits_modules c.args.words c.args.names c.args.crates c.args.modules c.args.definitions c.args.room
    c.if-words-gt-SNAPSHOT.false c.if-names-gt-LIMIT.false c.if-crates-gt-LIMIT.false c.if-modules-gt-LIMIT.true

pub returns-then-definitions-gt-LIMIT : goal.returns-then-definitions-gt-LIMIT
returns-then-definitions-gt-LIMIT c =
    fits_definitions c.args.words c.args.names c.args.crates c.args.modules c.args.definitions c.args.room
    c.if-words-gt-SNAPSHOT.false c.if-names-gt-LIMIT.false c.if-crates-gt-LIMIT.false
    c.if-modules-gt-LIMIT.false c.if-definitions-gt-LIMIT.true

pub returns : goal.returns
returns c =
    fits_room c.args.words c.args.names c.args.crates c.args.modules c.args.definitions c.args.room
    c.if-words-gt-SNAPSHOT.false c.if-names-gt-LIMIT.false c.if-crates-gt-LIMIT.false
    c.if-modules-gt-LIMIT.false c.if-definitions-gt-LIMIT.false
