-- Forms of the code as those of the definitions.
use Rattle.std.specs.Prelude.{List, map}
use Rattle.vw_words.specs.declared.value.Value.{Value as HeldValue}
use Rattle.vw_words.specs.declared.value.Value.TheVariants.{Bit, Name, Number, Part}
use Rattle.vw_words.specs.declared.place.Place.{Place as HeldPlace}
use Rattle.vw_words.specs.declared.place.Place.TheVariants.{Keyword, Any}
use Rattle.vw_words.specs.declared.setting.Setting.{Setting as HeldSetting}
use Rattle.vw_words.specs.declared.form.Form.{Form as HeldForm}
use Rattle.vw_words.specs.declared.forms.Entry.{Entry}
use Rattle.vw_words.specs.Forms.{Value, bit, name, number, part, Place, keyword, any, Setting, Form}

abbrev pub value_view : HeldValue → Value
value_view Bit = bit
value_view Name = name
value_view (Number least most) = number least most
value_view (Part most) = part most

abbrev pub place_view : HeldPlace → Place
place_view (Keyword wanted) = keyword wanted.now
place_view (Any value) = any (value_view value)

abbrev pub setting_view : HeldSetting → Setting
setting_view setting = record { name = setting.name.now; value = value_view setting.value; times = setting.times }

abbrev pub form_view : HeldForm → Form
form_view form = record { places = map place_view form.places.now; settings = map setting_view form.settings.now }

-- the forms of a table of commands
abbrev pub forms_view : {C : Type 0} → List (Entry C) → List Form
forms_view table = map (λ entry. form_view entry.form) table

abbrev pub settings_view : List HeldSetting → List Setting
settings_view settings = map setting_view settings
