-- an extension that was found is no longer than the message
use Rattle.std.proofs.Common.{◌<◌, ◌^◌, length, Option, IfSome, sym, subst}
use Rattle.std.specs.Option.{option_copied}
use Rattle.asn_types.specs.Extension.{ExtensionForm, extension_content}
use Rattle.intake.proofs.Wished.{usage_below, alt_name_below}
use Rattle.intake.proofs.wish.copied.Goals as goal

pub put_extension-requires : goal.put_extension-requires
put_extension-requires c =
    subst (λ (o : Option ExtensionForm). IfSome o (λ x. length (extension_content x) < 2 ^ 32)) (sym c.usage.ensures) (usage_below (option_copied c.args.exts) c.requires)

pub put_extension-requires-2 : goal.put_extension-requires-2
put_extension-requires-2 c =
    subst (λ (o : Option ExtensionForm). IfSome o (λ x. length (extension_content x) < 2 ^ 32)) (sym c.alt_name.ensures) (alt_name_below (option_copied c.args.exts) c.requires)
