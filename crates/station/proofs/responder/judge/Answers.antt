use Rattle.std.proofs.Common.{◌≡◌, ◌==◌, true, false, refl}
use Rattle.std.proofs.lemmas.Bool.{eq-eqb, ne_eqb}
use Rattle.station.specs.Model.{known}
use Rattle.station.proofs.responder.judge.Goals as goal

pub returns-then-fields-ne-VERSION-clause-became : goal.returns-then-fields-ne-VERSION-clause-became
returns-then-fields-ne-VERSION-clause-became g c =
    let other : (c.args.fields.now.version == 0x10) ≡ false = ne_eqb _ _ c.if-fields-ne-VERSION.true in
    rw other (record { replied = c.alone.ensures; turned = refl; others = λ k h. refl })

pub returns-then-fields-ne-VERSION-2-clause-became : goal.returns-then-fields-ne-VERSION-2-clause-became
returns-then-fields-ne-VERSION-2-clause-became g c =
    let same : (c.args.fields.now.version == 0x10) ≡ true = eq-eqb _ _ c.if-fields-ne-VERSION.false in
    let is_known : known c.args.fields.now.command ≡ true = c.in-Ok.ensures.1 in
    let other : (c.args.fields.now.command_version == 0x10) ≡ false = ne_eqb _ _ c.if-fields-ne-VERSION-2.true in
    rw (same, is_known, other) (record { replied = c.alone-then-fields-ne-VERSION-2.ensures; turned = refl; others = λ k h. refl })
