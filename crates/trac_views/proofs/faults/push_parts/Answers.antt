use Rattle.std.proofs.Common.{◌≡◌, ◌++◌, codes}
use Rattle.std.specs.Prelude.{decimal}
use Rattle.trac_views.proofs.Texts.{after, on_ok}
use Rattle.trac_views.proofs.faults.push_parts.Goals as goal

pub returns : goal.returns
returns g c =
    let old = c.args.lines.now.items in
    let upto-1 : c.push.new.line.items ≡ old ++ (codes "cells: forms ") = c.in_ok-push.ensures in
    let upto-2 : c.push_number.new.line.items ≡ old ++ (codes "cells: forms " ++ decimal c.args.parts.now.forms) = after old c.push.new.line.items c.push_number.new.line.items (codes "cells: forms ") (decimal c.args.parts.now.forms) upto-1 c.in_ok-push_number.ensures in
    let upto-3 : c.push-2.new.line.items ≡ old ++ (codes "cells: forms " ++ decimal c.args.parts.now.forms ++ codes ", neutral string ") = after old c.push_number.new.line.items c.push-2.new.line.items (codes "cells: forms " ++ decimal c.args.parts.now.forms) (codes ", neutral string ") upto-2 c.in_ok-push-2.ensures in
    let upto-4 : c.push_number-2.new.line.items ≡ old ++ (codes "cells: forms " ++ decimal c.args.parts.now.forms ++ codes ", neutral string " ++ decimal c.args.parts.now.neutral) = after old c.push-2.new.line.items c.push_number-2.new.line.items (codes "cells: forms " ++ decimal c.args.parts.now.forms ++ codes ", neutral string ") (decimal c.args.parts.now.neutral) upto-3 c.in_ok-push_number-2.ensures in
    let upto-5 : c.push-3.new.line.items ≡ old ++ (codes "cells: forms " ++ decimal c.args.parts.now.forms ++ codes ", neutral string " ++ decimal c.args.parts.now.neutral ++ codes ", active string ") = after old c.push_number-2.new.line.items c.push-3.new.line.items (codes "cells: forms " ++ decimal c.args.parts.now.forms ++ codes ", neutral string " ++ decimal c.args.parts.now.neutral) (codes ", active string ") upto-4 c.in_ok-push-3.ensures in
    let upto-6 : c.push_number-3.new.line.items ≡ old ++ (codes "cells: forms " ++ decimal c.args.parts.now.forms ++ codes ", neutral string " ++ decimal c.args.parts.now.neutral ++ codes ", active string " ++ decimal c.args.parts.now.active) = after old c.push-3.new.line.items c.push_number-3.new.line.items (codes "cells: forms " ++ decimal c.args.parts.now.forms ++ codes ", neutral string " ++ decimal c.args.parts.now.neutral ++ codes ", active string ") (decimal c.args.parts.now.active) upto-5 c.in_ok-push_number-3.ensures in
    let upto-7 : c.push-4.new.line.items ≡ old ++ (codes "cells: forms " ++ decimal c.args.parts.now.forms ++ codes ", neutral string " ++ decimal c.args.parts.now.neutral ++ codes ", active string " ++ decimal c.args.parts.now.active ++ codes ", free ") = after old c.push_number-3.new.line.items c.push-4.new.line.items (codes "cells: forms " ++ decimal c.args.parts.now.forms ++ codes ", neutral string " ++ decimal c.args.parts.now.neutral ++ codes ", active string " ++ decimal c.args.parts.now.active) (codes ", free ") upto-6 c.in_ok-push-4.ensures in
    let upto-8 : c.push_number-4.new.line.items ≡ old ++ (codes "cells: forms " ++ decimal c.args.parts.now.forms ++ codes ", neutral string " ++ decimal c.args.parts.now.neutral ++ codes ", active string " ++ decimal c.args.parts.now.active ++ codes ", free " ++ decimal c.args.parts.now.free) = after old c.push-4.new.line.items c.push_number-4.new.line.items (codes "cells: forms " ++ decimal c.args.parts.now.forms ++ codes ", neutral string " ++ decimal c.args.parts.now.neutral ++ codes ", active string " ++ decimal c.args.parts.now.active ++ codes ", free ") (decimal c.args.parts.now.free) upto-7 c.in_ok-push_number-4.ensures in
    on_ok c.push-5.result _ _ (λ last. after old c.push_number-4.new.line.items c.push-5.new.line.items (codes "cells: forms " ++ decimal c.args.parts.now.forms ++ codes ", neutral string " ++ decimal c.args.parts.now.neutral ++ codes ", active string " ++ decimal c.args.parts.now.active ++ codes ", free " ++ decimal c.args.parts.now.free) (codes "\n") upto-8 last) c.push-5.ensures
