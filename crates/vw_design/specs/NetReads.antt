-- The name that an item drives. The nets that are read: inputs of gates, data inputs and controls of latches, and last
-- the outputs of the root.
use Rattle.std.specs.Prelude.{List, [], ◌∷◌, ◌++◌, map, option_to_list, flat_map}
use Rattle.vw_design.specs.declared.item.Item.{Item}
use Rattle.vw_design.specs.declared.item.Item.TheVariants.{Names, Latch, Sub}
use Rattle.vw_design.specs.declared.design.Design.{Design}
use Rattle.vw_design.specs.Paths.{Word, Path, Net, model_at, model_outputs}
use Rattle.vw_design.specs.Preorder.{Site, sites}

-- the net of a name at an instance
abbrev pub net_at : Path → Word → Net
net_at path name = record { path = path; name = name }

-- the name that a gate or a latch drives; a placed model drives none by itself
abbrev pub driven_name : Item → Word
driven_name (Names line ins out cover) = out
driven_name (Latch line d q edge control init) = q
driven_name (Sub line model binds) = []

-- what an item reads as data, and its control
abbrev pub data_of : Item → List Word
data_of (Names line ins out cover) = ins
data_of (Latch line d q edge control init) = d ∷ []
data_of (Sub line model binds) = []

-- the control of an item, where it is a latch with one
abbrev pub controls_of : Item → List Word
controls_of (Names line ins out cover) = []
controls_of (Latch line d q edge control init) = option_to_list control
controls_of (Sub line model binds) = []

-- the nets at the path of a site
abbrev pub nets_at : Site → List Word → List Net
nets_at site names = map (net_at site.path) names

-- the outputs of the root
abbrev pub root_outputs : Design → List Net
root_outputs design = map (net_at []) (model_outputs (model_at design []))

-- all nets that are read, those that are read as data, and the controls, each in preorder
abbrev pub net_reads : Design → List Net
net_reads design = flat_map (λ site. nets_at site (data_of site.item ++ controls_of site.item)) (sites design) ++ root_outputs design

-- the nets that are read as data: by the items of all instances, and by the outputs of the root
abbrev pub data_reads : Design → List Net
data_reads design = flat_map (λ site. nets_at site (data_of site.item)) (sites design) ++ root_outputs design

-- the nets that control latches, in the order of these
abbrev pub controls : Design → List Net
controls design = flat_map (λ site. nets_at site (controls_of site.item)) (sites design)
