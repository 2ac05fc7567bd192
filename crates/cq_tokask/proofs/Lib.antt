mod GivenFiles
mod Said
mod Fronts
mod Coming
mod Exported
