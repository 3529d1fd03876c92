use Rattle.std.proofs.Common.{subst, arith}
use Rattle.items.specs.Looks.{Known}
use Rattle.walk.proofs.Reaching.{reach_byte, reach_less, reach_replaced, reach_value}
use Rattle.walk.proofs.apply.apply_action.Goals as goal

pub returns-in-Interpolate-clause-goes : goal.returns-in-Interpolate-clause-goes
returns-in-Interpolate-clause-goes g c = rw c.in-Interpolate.is (c.select_text.ensures.goes (g.S.PropertySource.means c.args.given.now.source.now))

pub returns-in-Keep-clause-goes : goal.returns-in-Keep-clause-goes
returns-in-Keep-clause-goes g c = rw c.in-Keep.is (λ nested aim left es r. reach_byte c.in-Keep.byte c.put_byte.ensures.grows r)

pub returns-in-Dollar-clause-goes : goal.returns-in-Dollar-clause-goes
returns-in-Dollar-clause-goes g c = rw c.in-Dollar.is (λ nested aim left es r. reach_byte 36 c.put_byte-in-Dollar.ensures.grows (reach_replaced c.args.site.depth c.replace.ensures r))

pub returns-in-Property-clause-goes : goal.returns-in-Property-clause-goes
returns-in-Property-clause-goes g c =
    let known = subst (Known (g.S.PropertySource.means c.args.given.now.source.now)) c.in-Property.is c.requires.known in
    rw c.in-Property.is (λ nested aim left es r. reach_value c.in-Property.name.now c.in-Property.len known c.show.ensures c.put_value.ensures.grows (reach_replaced c.args.site.depth c.replace-in-Property.ensures r))

pub returns-in-Nothing-clause-goes : goal.returns-in-Nothing-clause-goes
returns-in-Nothing-clause-goes g c = rw c.in-Nothing.is (λ nested aim left es r. reach_replaced c.args.site.depth c.replace-in-Nothing.ensures (reach_less left (omega arith) r))
